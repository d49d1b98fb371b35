-- An issue of a free title to a register: that it can be made, and the thread state after it.
use Rattle.std.proofs.Common.{◌≡◌, ℕ, ◌+◌, ◌-◌, ◌<◌, ◌≤◌, Bool, true, false, List, ◌∷◌, length, refl, sym, ◌∙◌, ap, subst, arith, inl, inr}
use Rattle.std.specs.Prelude.{◌&&◌, Contains, slice_set}
use Rattle.std.specs.List.{sum_by}
use Rattle.std.proofs.lemmas.List.{length-set}
use Rattle.std.proofs.lemmas.List.Sums.{sum_by-cons}
use Rattle.pa_slot.specs.declared.title.Title.{Title}
use Rattle.pa_slot.specs.declared.title.OwnState.TheVariants.{Clean}
use Rattle.pa_slot.specs.declared.word.Step.TheVariants as steps
use Rattle.pa_slot.specs.Count.{number_of}
use Rattle.pa_slot.specs.Titles.{same_title, HasContentFrom}
use Rattle.pa_slot.specs.Holdings.{one}
use Rattle.pa_slot.proofs.Same.{title_tells}
use Rattle.pa_record.specs.declared.entry.Answer.TheVariants as answers
use Rattle.pa_region.specs.declared.view.OwnTitle.{OwnTitle}
use Rattle.pa_region.specs.declared.view.View.{View}
use Rattle.pa_region.specs.Views.{HasStake, free_of, sealed_of, seen_of}
use Rattle.pa_region.specs.Waiting.{is_unclean, unclean_of}
use Rattle.pa_region.specs.Aware.{IsAware}
use Rattle.pa_region.specs.Moves.{CanCount, IsFound, seal}
use Rattle.pa_region.specs.Leaves.{CountLeaves, SealedLeaves, OwnsChange, LeavesCount}
use Rattle.pa_quarantine.specs.Filling.{zeroed}
use Rattle.pa_cells.specs.declared.handle.Handle.{Handle}
use Rattle.pa_cells.specs.Handles.{is_plain}
use Rattle.pa_rules.specs.declared.register.Register.TheVariants.{Empty, Own}
use Rattle.pa_op_specs.specs.Stocks.{StockRegister, StockValue, IsStock, HasNoHandle, register_in, owns_one, seals_one, refs_one, titles_in, listed_slot}
use Rattle.pa_op_specs.specs.Workers.{HasItsStake}
use Rattle.pa_thread_state.specs.Changes.{IsBack}
use Rattle.pa_thread_state.specs.Allocating.{Issues, after_issue}
use Rattle.pa_op_specs.proofs.Registers.{sum_set, made_set}
use Rattle.pa_op_specs.proofs.Seeing.{made_kept, made_for_kept}
use Rattle.pa_op_specs.proofs.Stakes.{least_is}
use Rattle.pa_thread_state.proofs.Looking.{seen_at}
use Rattle.pa_thread_state.proofs.Parking.{none_owned, none_pointed}
use Rattle.pa_thread_state.proofs.Seals.{seal_owned}

-- the view after the content was zeroed and an issue found this word, whose Own is sealed if the slot is plain
abbrev pub issued_view : Bool → View → Title → ℕ → View
issued_view plain v t word = after_issue plain t word (zeroed t v)

abbrev pub issued : StockValue → Handle → ℕ → ℕ → StockValue
issued s h r word =
    record s { view = issued_view (is_plain s.plain_from h) s.view h.title word; registers = slice_set s.registers r (Own h) }

-- an issue changes a view so, whether its Own is sealed or not
pub issue_leaves : CountLeaves → SealedLeaves → (plain : Bool) (t : Title) (word : ℕ) (v : View) → CanCount steps.Issue t v →
    LeavesCount steps.Issue t word v (after_issue plain t word v)
issue_leaves counts seals true t word v can = (seals t word v can).0
issue_leaves counts seals false t word v can = counts steps.Issue t word v can

-- another title that was free is so still
pub issue_still : CountLeaves → SealedLeaves → (plain : Bool) (t : Title) (word : ℕ) (v : View) → CanCount steps.Issue t (zeroed t v) →
    (u : Title) → (t ≡ u → ⊥) → 0 < free_of v u → 0 < free_of (issued_view plain v t word) u
issue_still counts seals plain t word v can u other free =
    let leaves = issue_leaves counts seals plain t word (zeroed t v) can in
    elim (title_tells t u) [
      | inl y ↦ absurd (other y.1)
      | inr n ↦ (let e = leaves.frees u in let f : one (same_title t u) ≡ 0 = ap one n.0 in omega arith)
    ]

-- an issue of a free title with a zeroed content can be made
pub can_issue : (s : StockValue) (t : Title) (z : View) → z ≡ zeroed t s.view → IsStock s → HasItsStake s → 0 < s.view.budget →
    0 < free_of s.view t →
    HasContentFrom z.words t 0 0 → CanCount steps.Issue t z
can_issue s t z e is stake budget free content = (
  subst (λ (v : View). 0 < free_of v t) (sym e) free,
  subst (λ (v : View). HasStake v) (sym e) (least_is s.thread s.view is.stake stake).1,
  subst (λ (v : View). 0 < v.budget) (sym e) budget,
  content,
)

-- a title that is on no list isn't one that is
pub not_listed : (s : StockValue) (h : Handle) → IsBack h s → (p c : ℕ) (u : Title) → Contains (titles_in s.caches p c) u → h.title ≡ u → ⊥
not_listed s h back p c u among same = back.new p c (subst (λ x. Contains (titles_in s.caches p c) x) (sym same) among)

-- the Own that an issue gives
abbrev new_own : Title → OwnTitle
new_own t = record { title = t; state = Clean; idle = true; sealed = false }

-- an Own that is new is clean
own_clean : (t : Title) (os : List OwnTitle) → sum_by (λ (o : OwnTitle). one (is_unclean o.state)) os ≡ 0 →
    sum_by (λ (o : OwnTitle). one (is_unclean o.state)) (new_own t ∷ os) ≡ 0
own_clean t os none = let e = sum_by-cons (λ (o : OwnTitle). one (is_unclean o.state)) (new_own t) os in omega arith

with_false : (b : Bool) → one (b && false) ≡ 0
with_false true = refl
with_false false = refl

-- and not sealed, if it isn't sealed then
own_seals : (t u : Title) (os : List OwnTitle) →
    sum_by (λ (o : OwnTitle). one (same_title o.title u && o.sealed)) (new_own t ∷ os)
    ≡ sum_by (λ (o : OwnTitle). one (same_title o.title u && o.sealed)) os
own_seals t u os =
    let e = sum_by-cons (λ (o : OwnTitle). one (same_title o.title u && o.sealed)) (new_own t) os in
    let z = with_false (same_title t u) in
    omega arith

-- no Own is unclean after it
issue_clean : OwnsChange → (plain : Bool) (t : Title) (word : ℕ) (v : View) → unclean_of v ≡ 0 →
    unclean_of (after_issue plain t word v) ≡ 0
issue_clean owns true t word v clean =
    owns.1 t seal (λ (o : OwnTitle). one (is_unclean o.state)) (new_own t ∷ v.owns) (λ o. refl) ∙ own_clean t v.owns clean
issue_clean owns false t word v clean = own_clean t v.owns clean

-- there is one seal more, of the title, if the Own is sealed
issue_seals : SealedLeaves → (plain : Bool) (t : Title) (word : ℕ) (v : View) → CanCount steps.Issue t v → (u : Title) →
    sealed_of (after_issue plain t word v) u ≡ sealed_of v u + one (same_title t u && plain)
issue_seals seals true t word v can u = let e = (seals t word v can).1 u in let f = with_true (same_title t u) in omega arith
  where
    with_true : (b : Bool) → one (b && true) ≡ one b
    with_true true = refl
    with_true false = refl
issue_seals seals false t word v can u = let e = own_seals t u v.owns in let f = with_false (same_title t u) in omega arith

-- the thread state stays sound
pub issued_stock : CountLeaves → SealedLeaves → OwnsChange → (s : StockValue) (r word : ℕ) (h : Handle) → IsStock s →
    CanCount steps.Issue h.title (zeroed h.title s.view) → r < 64 →
    HasNoHandle (register_in s.registers r) → IsBack h s → IsStock (issued s h r word)
issued_stock counts seals owns s r word h is can below bare back = record {
  partitions = is.partitions;
  handles = record {
    count = length-set rs r (Own h) ∙ is.handles.count;
    owns = λ u. let a = leaves.owns u in let b = is.handles.owns u in let c = sum_set (owns_one u) rs r (Own h) Empty inside in
        let d = none_owned u (register_in rs r) bare in omega arith;
    refs = λ u. let a = leaves.refs u in let b = is.handles.refs u in let c = sum_set (refs_one u) rs r (Own h) Empty inside in
        let d = none_pointed u (register_in rs r) bare in omega arith;
    clean = issue_clean owns plain t word (zeroed t s.view) is.handles.clean;
    sealed = λ u. let a = issue_seals seals plain t word (zeroed t s.view) can u in let b = is.handles.sealed u in
        let c = sum_set (seals_one s.plain_from u) rs r (Own h) Empty inside in
        let d = none_owned u (register_in rs r) bare in let e = seal_owned s.plain_from u (register_in rs r) in omega arith;
    made = made_set w rs r (Own h) inside (made_kept h s.view w leaves.lists back.made)
        (λ k. made_for_kept s.view w leaves.lists (register_in rs k) (is.handles.made k));
  };
  lists = record {
    count = is.lists.count;
    sound = is.lists.sound;
    classes = is.lists.classes;
    few = is.lists.few;
    free = λ p c u among. issue_still counts seals plain t word s.view can u (not_listed s h back p c u among)
        (is.lists.free p c u among);
    apart = is.lists.apart;
    made = λ p c u among. made_kept (listed_slot p c u) s.view w leaves.lists (is.lists.made p c u among);
    well = is.lists.well;
  };
  stake = record { small = is.stake.small; only = λ k other. leaves.entry.stakes k ∙ is.stake.only k other };
}
  where
    t : Title
    t = h.title

    plain : Bool
    plain = is_plain s.plain_from h

    w : View
    w = issued_view plain s.view t word

    leaves : LeavesCount steps.Issue h.title word (zeroed h.title s.view)
        (issued_view (is_plain s.plain_from h) s.view h.title word)
    leaves = issue_leaves counts seals plain t word (zeroed t s.view) can

    rs : List StockRegister
    rs = s.registers

    inside : r < length rs
    inside = let n = is.handles.count in omega arith

-- ---- by what the calls say

-- what an issue is, by what the calls of the seat say of its view
pub issues : (s : StockValue) (r word : ℕ) (h : Handle) (z w : View) → z ≡ zeroed h.title s.view →
    w ≡ after_issue (is_plain s.plain_from h) h.title word z →
    CanCount steps.Issue h.title z → IsFound h.title word z → IsAware z → 16 ≤ h.title.len →
    Issues h r (answers.Made (seen_at h word) (h.title.len - 8)) s (record s { view = w; registers = slice_set s.registers r (Own h) })
issues s r word h z w zeros is can found aware long = record {
  seen = seen_at h word;
  answer_is = refl;
  long = long;
  slot = refl;
  after_is = ap (λ v. record s { view = v; registers = slice_set s.registers r (Own h) })
      (is ∙ ap (after_issue (is_plain s.plain_from h) h.title word) zeros);
  able = subst (CanCount steps.Issue h.title) zeros can;
  found = subst (IsFound h.title word) zeros found;
  number = ap number_of (found.known can.0) ∙ (aware.free_seen h.title can.0 ∙ ap (λ v. seen_of v h.title) zeros);
}
