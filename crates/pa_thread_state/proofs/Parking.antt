-- Handles that go to a cell and come from one: the thread state in between and after, and what stays of the seat's view.
use Rattle.std.proofs.Common.{◌≡◌, ℕ, ◌+◌, ◌-◌, ◌<◌, ◌≤◌, Bool, true, false, ◌&&◌, not, List, [], ◌∷◌, ◌++◌, length, refl, sym, ◌∙◌, ap, subst, arith, inl, inr}
use Rattle.std.specs.Prelude.{◌==◌, slice_set}
use Rattle.std.specs.List.{sum_by}
use Rattle.std.proofs.lemmas.List.{length-set, append-nil}
use Rattle.std.proofs.lemmas.List.Sums.{sum_by-cons, sum_by-append}
use Rattle.std.proofs.lemmas.Bool.Decides.{eqb_tells}
use Rattle.pa_slot.specs.declared.title.Title.{Title}
use Rattle.pa_slot.specs.Titles.{same_title}
use Rattle.pa_slot.specs.Holdings.{one, OwnOf, SealedOwn, RefOf}
use Rattle.pa_region.specs.declared.view.OwnTitle.{OwnTitle}
use Rattle.pa_region.specs.declared.view.Stake.{Stake}
use Rattle.pa_region.specs.declared.view.View.{View}
use Rattle.pa_region.specs.Views.{own_of, sealed_of, ref_of, stake_of}
use Rattle.pa_region.specs.Waiting.{is_unclean}
use Rattle.pa_region.specs.Pairs.{log_among}
use Rattle.pa_region.specs.Lists.{list_of, IsBeginning}
use Rattle.pa_region.specs.Takes.{BeginningsJoin, SeenJoins, FreeNumbersStay}
use Rattle.pa_region.specs.Hands.{CanHand, HoldsGiven, left_after, united}
use Rattle.pa_region.specs.Lending.{Keeps}
use Rattle.pa_region.specs.Marks.{parcel_of}
use Rattle.pa_region.specs.Aware.{IsAware}
use Rattle.pa_region.specs.Leaves.{HandsKeepSeals}
use Rattle.pa_region.proofs.Pieces.{owns_have, seals_have, refs_have}
use Rattle.pa_cells.specs.declared.handle.Handle.{Handle}
use Rattle.pa_cells.specs.Handles.{ParkedHandle, IsParked, IsSealedFrom, HasSeenMade, LacksHandle, GiversLackHandles, TakersHaveHandles, SlotsStaySeen, handle_item}
use Rattle.pa_rules.specs.declared.register.Register.TheVariants.{Empty, Own, Ref, Freed, Cleared}
use Rattle.pa_op_specs.specs.Stocks.{StockRegister, StockValue, IsStock, IsMadeFor, HasNoHandle, register_in, owns_one, seals_one, refs_one}
use Rattle.pa_op_specs.specs.Workers.{HasItsStake}
use Rattle.pa_thread_state.specs.Exchanging.{handle_register, register_of}
use Rattle.pa_op_specs.proofs.Registers.{sum_set, made_set}
use Rattle.pa_op_specs.proofs.Seeing.{made_for_kept}
use Rattle.pa_op_specs.proofs.Stakes.{least_is}
use Rattle.pa_thread_state.proofs.Leaving.{clean_own}
use Rattle.pa_thread_state.proofs.Seals.{seal_owned, hands_plain, handle_seals}
use Rattle.pa_op_specs.proofs.Stocks.{register_owns, register_points, stock_kept, stock_with}
use Rattle.pa_op_specs.proofs.Entered.{Rests}
use Rattle.pa_root.proofs.Seeing.{free_kept}

pub rests_none : (v : View) → Rests v v
rests_none v = record {
  stakes = λ k. refl;
  logs = λ k. refl;
  lists = λ k. ([], sym (append-nil (list_of k v)));
  grows = λ t. omega arith;
  frees = λ t. omega arith;
  numbers = λ n t well free. refl;
  budget = omega arith;
}

-- ---- a handle is handed over

-- what a register with a handle weighs
pub handle_owns : (own : Bool) (h : Handle) (u : Title) → owns_one u (handle_register own h) ≡ one (own && same_title h.title u)
handle_owns true h u = refl
handle_owns false h u = refl

pub handle_points : (own : Bool) (h : Handle) (u : Title) → refs_one u (handle_register own h) ≡ one (not own && same_title h.title u)
handle_points true h u = refl
handle_points false h u = refl

pub holds_given : (s : StockValue) (reg : ℕ) (own : Bool) (h : Handle) → IsStock s → reg < 64 →
    register_in s.registers reg ≡ handle_register own h →
    HoldsGiven (handle_item own h.title) s.view
holds_given s reg true h is below has =
    let a = register_owns s reg h is below has in
    let b = clean_own s.view h.title is.handles.clean in
    omega arith
holds_given s reg false h is below has = register_points s reg h is below has

pub can_park : (s : StockValue) (reg : ℕ) (own : Bool) (h : Handle) → IsStock s → reg < 64 →
    register_in s.registers reg ≡ handle_register own h →
    CanHand (parcel_of (handle_item own h.title ∷ []) 0 []) s.view
can_park s reg own h is below has =
    record { items = (holds_given s reg own h is below has, tt); budget = omega arith; leases = tt; clean = λ k e. cc }

-- the seat has seen how the slot of a register's handle was made
pub handle_made : (s : StockValue) (reg : ℕ) (own : Bool) (h : Handle) → IsStock s → register_in s.registers reg ≡ handle_register own h →
    HasSeenMade h s.view
handle_made s reg true h is has = subst (IsMadeFor s.view) has (is.handles.made reg)
handle_made s reg false h is has = subst (IsMadeFor s.view) has (is.handles.made reg)

-- the view without it
abbrev pub parked_view : View → Bool → Handle → View
parked_view v own h = left_after (parcel_of (handle_item own h.title ∷ []) 0 []) v

pub parked_rests : (own : Bool) (h : Handle) (v : View) → LacksHandle own h.title v (parked_view v own h) → Rests v (parked_view v own h)
parked_rests own h v lacks = record {
  stakes = λ k. ap (λ (ss : List Stake). sum_by (λ (x : Stake). one (x.number == k)) ss) lacks.stakes;
  logs = λ k. ap (log_among k) lacks.stakes;
  lists = λ k. ([], sym (append-nil (list_of k v)));
  grows = λ t. omega arith;
  frees = λ t. let e = lacks.frees t in omega arith;
  numbers = λ n t well free. refl;
  budget = none_less v.budget;
}
  where
    none_less : (n : ℕ) → n ≤ n - 0
    none_less n = omega arith

-- the thread state without it
abbrev pub parked_stock_of : StockValue → Bool → Handle → ℕ → StockValue
parked_stock_of s own h reg = record s { view = parked_view s.view own h; registers = slice_set s.registers reg Empty }

pub parked_stock : GiversLackHandles → HandsKeepSeals → (s : StockValue) (reg : ℕ) (own : Bool) (h : Handle) → IsStock s →
    IsAware s.view → HasItsStake s → reg < 64 → register_in s.registers reg ≡ handle_register own h →
    IsStock (parked_stock_of s own h reg)
parked_stock law seals s reg own h is aware stake below has =
    let w = parked_view s.view own h in
    let lacks = law own h.title 0 s.view (holds_given s reg own h is below has) in
    let rests = parked_rests own h s.view lacks in
    let rs = s.registers in
    let inside : reg < length rs = let n = is.handles.count in omega arith in
    stock_with s w (slice_set rs reg Empty) is
    (record {
      count = length-set rs reg Empty ∙ is.handles.count;
      owns = λ u. let a = lacks.owns u in let b = is.handles.owns u in let c = sum_set (owns_one u) rs reg Empty Empty inside in
          let d : owns_one u (register_in rs reg) ≡ one (own && same_title h.title u) = ap (owns_one u) has ∙ handle_owns own h u in
          omega arith;
      refs = λ u. let a = lacks.refs u in let b = is.handles.refs u in let c = sum_set (refs_one u) rs reg Empty Empty inside in
          let d : refs_one u (register_in rs reg) ≡ one (not own && same_title h.title u) = ap (refs_one u) has ∙ handle_points own h u in
          omega arith;
      clean = (lacks.lends ((least_is s.thread s.view is.stake stake).1, is.handles.clean)).1;
      sealed = λ u. let a = lacks.sealed u in let b = is.handles.sealed u in
          let c = sum_set (seals_one s.plain_from u) rs reg Empty Empty inside in
          let d = ap (seals_one s.plain_from u) has ∙ handle_seals s.plain_from own h u in
          let e = hands_plain seals s reg own h is aware below has u in omega arith;
      made = made_set w rs reg Empty inside tt (λ k. made_for_kept s.view w refl (register_in rs k) (is.handles.made k));
    })
    refl rests.frees rests.stakes

-- ---- the stake is lent, and comes back

-- a view that has seen more has seen how all slots that registers have were made
pub made_for_more : SlotsStaySeen → (v w : View) → ((k : ℕ) → IsBeginning (list_of k v) (list_of k w)) → (r : StockRegister) →
    IsMadeFor v r → IsMadeFor w r
made_for_more stays v w more Empty m = tt
made_for_more stays v w more (Own h) m = stays h v w m (more h.partition)
made_for_more stays v w more (Ref h) m = stays h v w m (more h.partition)
made_for_more stays v w more Freed m = tt
made_for_more stays v w more Cleared m = tt

pub owns_kept : (v w : View) (t : Title) → Keeps v w → own_of w t ≡ own_of v t
owns_kept v w t keeps = sym (owns_have w t) ∙ (keeps.things (OwnOf t) ∙ owns_have v t)

pub seals_kept : (v w : View) (t : Title) → Keeps v w → sealed_of w t ≡ sealed_of v t
seals_kept v w t keeps = sym (seals_have w t) ∙ (keeps.things (SealedOwn t) ∙ seals_have v t)

pub refs_kept : (v w : View) (t : Title) → Keeps v w → ref_of w t ≡ ref_of v t
refs_kept v w t keeps = sym (refs_have w t) ∙ (keeps.things (RefOf t) ∙ refs_have v t)

pub kept_stock : SlotsStaySeen → (s : StockValue) (w : View) → IsStock s → Keeps s.view w → IsStock (record s { view = w })
kept_stock stays s w is keeps =
    stock_kept s w s.registers is
    (record {
      count = is.handles.count;
      owns = λ t. owns_kept s.view w t keeps ∙ is.handles.owns t;
      refs = λ t. refs_kept s.view w t keeps ∙ is.handles.refs t;
      clean = keeps.unclean ∙ is.handles.clean;
      sealed = λ t. seals_kept s.view w t keeps ∙ is.handles.sealed t;
      made = λ k. made_for_more stays s.view w keeps.lists (register_in s.registers k) (is.handles.made k);
    })
    (record { small = is.stake.small; only = λ k other. keeps.stakes k ∙ is.stake.only k other })
    (λ h m. stays h s.view w m (keeps.lists h.partition)) (λ t. let e = free_kept s.view w t keeps in omega arith)

-- ---- a handle is taken in

-- a register without a handle weighs nothing
pub none_owned : (t : Title) (r : StockRegister) → HasNoHandle r → owns_one t r ≡ 0
none_owned t Empty is = refl
none_owned t (Own h) is = absurd is
none_owned t (Ref h) is = absurd is
none_owned t Freed is = refl
none_owned t Cleared is = refl

pub none_pointed : (t : Title) (r : StockRegister) → HasNoHandle r → refs_one t r ≡ 0
none_pointed t Empty is = refl
none_pointed t (Own h) is = absurd is
none_pointed t (Ref h) is = absurd is
none_pointed t Freed is = refl
none_pointed t Cleared is = refl

-- a view that has no stake of any number has none
pub no_stakes : (ss : List Stake) → ((k : ℕ) → sum_by (λ (x : Stake). one (x.number == k)) ss ≡ 0) → ss ≡ []
no_stakes [] none = refl
no_stakes (s ∷ ss) none = elim (eqb_tells s.number s.number) [
  | inl here ↦
      (let z = none s.number in
      let c = sum_by-cons (λ (x : Stake). one (x.number == s.number)) s ss in
      let d : one (s.number == s.number) ≡ 1 = ap one here.0 in
      absurd (omega arith))
  | inr never ↦ absurd (never.1 refl)
]

-- what stays if the note has no stake
pub taken_rests : BeginningsJoin → SeenJoins → FreeNumbersStay → (v n : View) → IsAware v → IsAware n → IsAware (united v n) →
    length v.words ≡ length n.words →
    ((k : ℕ) → stake_of n k ≡ 0) → Rests v (united v n)
taken_rests joins seen stay v n aware other both long none =
    let same : v.stakes ++ n.stakes ≡ v.stakes = ap (λ (ss : List Stake). v.stakes ++ ss) (no_stakes n.stakes none) ∙ append-nil v.stakes in
    record {
      stakes = λ k. ap (λ (ss : List Stake). sum_by (λ (x : Stake). one (x.number == k)) ss) same;
      logs = λ k. ap (log_among k) same;
      lists = λ k. (joins v n k both).0;
      grows = λ t. let e = seen v n t in omega arith;
      frees = λ t. omega (arith, sum_by-append (λ (u : Title). one (same_title u t)) v.frees n.frees);
      numbers = λ m t well free. (stay v n m t aware other both long well).0 free;
      budget = more v.budget n.budget;
    }
  where
    more : (a b : ℕ) → a ≤ a + b
    more a b = omega arith

pub made_parked : (own : Bool) (h : Handle) (v : View) → HasSeenMade h v → IsMadeFor v (handle_register own h)
made_parked true h v m = m
made_parked false h v m = m

-- the thread state with it
pub taken_stock : TakersHaveHandles → BeginningsJoin → SlotsStaySeen → (s : StockValue) (reg : ℕ) (p : ParkedHandle) → IsStock s →
    reg < 64 →
    HasNoHandle (register_in s.registers reg) → IsParked p → IsSealedFrom s.plain_from p → IsAware (united s.view p.note.view) →
    IsStock (record s { view = united s.view p.note.view; registers = slice_set s.registers reg (register_of p) })
taken_stock law joins stays s reg p is below bare parked seals both =
    let w = united s.view p.note.view in
    let takes = law p s.view parked both in
    let rs = s.registers in
    let r = register_of p in
    let inside : reg < length rs = let n = is.handles.count in omega arith in
    stock_kept s w (slice_set rs reg r) is
    (record {
      count = length-set rs reg r ∙ is.handles.count;
      owns = λ u. let a = takes.owns u in let b = is.handles.owns u in let c = sum_set (owns_one u) rs reg r Empty inside in
          let d = none_owned u (register_in rs reg) bare in let e = handle_owns p.own p.handle u in omega arith;
      refs = λ u. let a = takes.refs u in let b = is.handles.refs u in let c = sum_set (refs_one u) rs reg r Empty inside in
          let d = none_pointed u (register_in rs reg) bare in let e = handle_points p.own p.handle u in omega arith;
      clean = let a = is.handles.clean in let b = parked.clean in
          omega (arith, sum_by-append (λ (o : OwnTitle). one (is_unclean o.state)) s.view.owns p.note.view.owns);
      sealed = λ u. let a = takes.sealed u in let b = is.handles.sealed u in let c = seals u in
          let d = sum_set (seals_one s.plain_from u) rs reg r Empty inside in
          let e = none_owned u (register_in rs reg) bare in let f = seal_owned s.plain_from u (register_in rs reg) in
          let g = handle_seals s.plain_from p.own p.handle u in omega arith;
      made = made_set w rs reg r inside (made_parked p.own p.handle w takes.made)
          (λ k. made_for_more stays s.view w (λ q. (joins s.view p.note.view q both).0) (register_in rs k) (is.handles.made k));
    })
    (record { small = is.stake.small; only = λ k other. takes.stakes k ∙ is.stake.only k other })
    (λ h m. stays h s.view w m (joins s.view p.note.view h.partition both).0) (λ t. let e = takes.frees t in omega arith)
