-- A free title that goes back to its root from a worker's seat, or comes back if it can't: the thread state in between.
use Rattle.std.proofs.Common.{◌≡◌, ℕ, ◌<◌, List, [], ◌∷◌, map, Option, Some, None, Result, Ok, Err, refl, sym, ◌∙◌, ap, subst, arith, inl, inr}
use Rattle.std.specs.Prelude.{◌==◌, ◌≢◌, All, AllPairs, Contains, OnOk, OnErr}
use Rattle.std.specs.List.{sum_by}
use Rattle.std.proofs.lemmas.Bool.{cases_eq}
use Rattle.std.proofs.lemmas.List.{append-nil}
use Rattle.std.proofs.lemmas.List.Sums.{sum_by-append}
use Rattle.pa_slot.specs.declared.title.Title.{Title}
use Rattle.pa_slot.specs.Titles.{same_title, IsWellFormed}
use Rattle.pa_slot.specs.Holdings.{one}
use Rattle.pa_buckets.specs.Bands.{limit_of}
use Rattle.pa_buckets.specs.Table.{slot_of}
use Rattle.pa_record.specs.declared.numbered.Numbered.{Numbered}
use Rattle.pa_record.specs.declared.root.RootEntry.{RootEntry}
use Rattle.pa_record.specs.declared.root.RootAct.{RootAct}
use Rattle.pa_record.specs.Numbers.{root_numbers}
use Rattle.pa_record.specs.Spans.{name_of}
use Rattle.pa_lists.proofs.Members.{in_cases, not_in_none}
use Rattle.pa_lists.proofs.Joined.{map_cases, map_in}
use Rattle.pa_lists.proofs.Pairs.{pairs_none, pairs_cons}
use Rattle.pa_region.specs.declared.view.Entry.{Entry}
use Rattle.pa_region.specs.declared.view.Made.{Made}
use Rattle.pa_region.specs.declared.view.OwnTitle.{OwnTitle}
use Rattle.pa_region.specs.declared.view.Stake.{Stake}
use Rattle.pa_region.specs.declared.view.View.{View}
use Rattle.pa_region.specs.Views.{free_of, seen_of, stake_of}
use Rattle.pa_region.specs.Waiting.{is_unclean}
use Rattle.pa_region.specs.Pairs.{log_among}
use Rattle.pa_region.specs.Lists.{list_of}
use Rattle.pa_region.specs.Lending.{Lends}
use Rattle.pa_region.specs.Hands.{CanHand, united}
use Rattle.pa_region.specs.Takes.{BeginningsJoin}
use Rattle.pa_region.specs.Aware.{IsAware}
use Rattle.pa_region.specs.Shares.{Share}
use Rattle.pa_region.proofs.LendBack.{kept_number}
use Rattle.pa_rules.specs.Caches.{SameLists}
use Rattle.pa_rules.specs.Sizes.{HasClass}
use Rattle.pa_root.specs.Filling.{frees_parcel}
use Rattle.pa_root.specs.Handing.{HasOnly, HasSeenFill, HasSeenMap, root_entry}
use Rattle.pa_root.proofs.Parcels.{can_hand, note_has, keeps_but}
use Rattle.pa_root.proofs.Together.{no_own_clean}
use Rattle.pa_cache.specs.Chained.{HoldsList}
use Rattle.pa_cells.specs.declared.handle.Handle.{Handle}
use Rattle.pa_cells.specs.Handles.{HandsOut, HasSeenMade, SlotsStaySeen}
use Rattle.pa_op_specs.specs.Stocks.{StockValue, IsStock, register_in, titles_in, listed_in, listed_slot}
use Rattle.pa_thread_state.specs.Changes.{IsBack}
use Rattle.pa_thread_state.specs.Homing.{ComesHome, GoesHome, IsSettled, KeepsNoList, Spills, without_title, note_of_title}
use Rattle.pa_op_specs.proofs.Quiet.{same_titles}
use Rattle.pa_op_specs.proofs.Seeing.{made_kept, made_for_kept}
use Rattle.pa_thread_state.proofs.Leaving.{seals_beside}
use Rattle.pa_thread_state.proofs.Parking.{made_for_more}
use Rattle.pa_thread_state.specs.Lists.{WorkerCaches, lists_in}
use Rattle.pa_thread_state.proofs.Staying.{HasThem, kept_has, same_has, after_as}
use Rattle.pa_op_specs.proofs.Stocks.{stock_kept}
use Rattle.pa_op_specs.proofs.Entered.{Entering, entering_none}
use Rattle.pa_root.proofs.Seeing.{free_kept}
use Rattle.pa_root.proofs.Showing.{all_stakes}

-- ---- a free title is handed over

-- it alone is there to be handed over
pub alone : (t : Title) → AllPairs ◌≢◌ (t ∷ [])
alone t = let R : Title → Title → Type 0 = λ a b. a ≢ b in pairs_cons R t [] (λ u among. absurd (not_in_none u among)) (pairs_none R)

pub in_alone : (t u : Title) → Contains (t ∷ []) u → t ≡ u
in_alone t u among = elim (in_cases t u [] among) [ inl same ↦ same | inr none ↦ absurd (not_in_none u none) ]

free_alone : (t : Title) (v : View) → 0 < free_of v t → (u : Title) → Contains (t ∷ []) u → 0 < free_of v u
free_alone t v free u among = subst (λ x. 0 < free_of v x) (in_alone t u among) free

pub can_part : (s : StockValue) (h : Handle) → IsBack h s → CanHand (frees_parcel (h.title ∷ [])) s.view
can_part s h back = can_hand (h.title ∷ []) s.view (alone h.title) (free_alone h.title s.view back.free)

-- the note has it alone, and has seen how its slot was made
pub part_has : (h : Handle) (v : View) → HasOnly (h.title ∷ []) (note_of_title h.title v)
part_has h v = note_has (h.title ∷ []) v

pub left_stakes : (t : Title) (v : View) → (without_title t v).stakes ≡ v.stakes
left_stakes t v = all_stakes v.stakes

pub left_stake : (t : Title) (v : View) (k : ℕ) → stake_of (without_title t v) k ≡ stake_of v k
left_stake t v k = ap (λ (ss : List Stake). sum_by (λ (x : Stake). one (x.number == k)) ss) (left_stakes t v)

-- a seat that hands a title over makes no entry by that
pub left_enters : (stake line : ℕ) (t : Title) (v : View) → Entering stake line [] v (without_title t v)
left_enters stake line t v =
    let none = entering_none stake line v in
    record {
      logs = λ k. ap (log_among k) (left_stakes t v) ∙ none.logs k;
      stakes = left_stake t v;
      lists = λ k. ([], sym (append-nil (list_of k v)));
      grows = λ u. omega arith;
      each = λ e among. absurd (not_in_none e among);
    }

-- a seat that hands a title over has the other free titles
pub left_frees : (t : Title) (v : View) → IsAware v → 0 < free_of v t → (u : Title) → (t ≡ u → ⊥) →
    free_of (without_title t v) u ≡ free_of v u
left_frees t v aware free u other =
    (keeps_but (t ∷ []) v (alone t) (free_alone t v free) aware.free_once).stays u
    (λ among. other (in_alone t u among))

-- after the handle's title left the seat, each title on the thread's lists is still free with the seat
left_listed : (s : StockValue) (h : Handle) → IsStock s → IsAware s.view → IsBack h s → (p class : ℕ) (t : Title) →
    Contains (titles_in s.caches p class) t →
    0 < free_of (without_title h.title s.view) t
left_listed s h is aware back p class t among =
    let other : h.title ≡ t → ⊥ = λ same. back.new p class (subst (λ x. Contains (titles_in s.caches p class) x) (sym same) among) in
    subst (λ n. 0 < n) (sym (left_frees h.title s.view aware back.free t other)) (is.lists.free p class t among)

pub left_stock : (s : StockValue) (h : Handle) → IsStock s → IsAware s.view → IsBack h s →
    IsStock (record s { view = without_title h.title s.view })
left_stock s h is aware back =
    let w = without_title h.title s.view in
    record {
      partitions = is.partitions;
      handles = record {
        count = is.handles.count;
        owns = is.handles.owns;
        refs = is.handles.refs;
        clean = is.handles.clean;
        sealed = is.handles.sealed;
        made = λ k. made_for_kept s.view w refl (register_in s.registers k) (is.handles.made k);
      };
      lists = record {
        count = is.lists.count;
        sound = is.lists.sound;
        classes = is.lists.classes;
        few = is.lists.few;
        free = left_listed s h is aware back;
        apart = is.lists.apart;
        made = λ p class t among. made_kept (listed_slot p class t) s.view w refl (is.lists.made p class t among);
        well = is.lists.well;
      };
      stake = record { small = is.stake.small; only = λ k other. left_stake h.title s.view k ∙ is.stake.only k other };
    }

-- ---- it goes back to its root

-- an entry with this act
entry_with : (e : RootEntry) (act : RootAct) → e.act ≡ act → e ≡ root_entry e.line act
entry_with e act is = ap (λ a. record e { act = a }) is

numbers_among : (ms : List Made) (m : Made) (e : RootEntry) (act : RootAct) → Contains ms m → m.numbers ≡ root_numbers e → e.act ≡ act →
    Contains (map (λ (n : Made). n.numbers) ms) (root_numbers (root_entry e.line act))
numbers_among ms m e act among says is =
    subst (λ ns. Contains (map (λ (n : Made). n.numbers) ms) ns) (says ∙ ap root_numbers (entry_with e act is))
    (map_in (λ (n : Made). n.numbers) ms m among)

-- how its slot was made was seen, as the root asks for it
pub seen_map : (h : Handle) (v : View) → HasSeenMade h v → h.class ≡ None → HasSeenMap h.partition v h.title
seen_map h v made direct =
    let (m, e, among, says, out) = made.entry in
    let by : HandsOut None h.title e.act = subst (λ k. HandsOut k h.title e.act) direct out in
    (e.line, by.0, numbers_among (list_of h.partition v) m e _ among says by.1)

pub seen_fill : (h : Handle) (v : View) (class : ℕ) → HasSeenMade h v → h.class ≡ Some class → HasSeenFill h.partition v h.title
seen_fill h v class made of =
    let (m, e, among, says, out) = made.entry in
    let by : HandsOut (Some class) h.title e.act = subst (λ k. HandsOut k h.title e.act) of out in
    let (asked, slots, act, named, long, small) = by in
    let (n, there, is) = map_cases (λ (x : Numbered). x.slot) slots (name_of h.title) named in
    (e.line, class, asked, slots, n, long, there, is, numbers_among (list_of h.partition v) m e _ among says act)

-- a slot of a class that was seen made has its class's size
pub made_long : (h : Handle) (v : View) (class : ℕ) → HasSeenMade h v → h.class ≡ Some class → h.title.len ≡ slot_of class
made_long h v class made of =
    let (m, e, among, says, out) = made.entry in
    let by : HandsOut (Some class) h.title e.act = subst (λ k. HandsOut k h.title e.act) of out in
    let (asked, slots, act, named, long, small) = by in
    long

-- a class that the version doesn't have, or whose limit is 0, keeps no list
pub no_list : (h : Handle) (s : StockValue) (class : ℕ) → h.class ≡ Some class →
    (HasClass s.caches.version class × (0 < limit_of class) → ⊥) →
    KeepsNoList h s
no_list h s class of none k is real =
    let same : k ≡ class = cc in
    elim (cases_eq (limit_of k) 0) [
      | inl e ↦ e
      | inr some ↦ absurd (none (subst (λ z. HasClass s.caches.version z × (0 < limit_of z)) same (real, omega (arith, some))))
    ]

-- a slot that went home alone is settled, if its class keeps no list; and so is one whose list spilled
pub home_settles : {A E : Type 0} (line : ℕ) (h : Handle) (s after : StockValue) (result : Result A E) → KeepsNoList h s →
    OnOk result (GoesHome line h s after) → OnOk result (IsSettled line h s after)
home_settles line h s after (Ok x) none home = inl (none, home)
home_settles line h s after (Err e) none home = tt

pub spill_settles : {A E : Type 0} (line class : ℕ) (h : Handle) (s after : StockValue) (result : Result A E) → h.class ≡ Some class →
    HasClass s.caches.version class → 0 < limit_of class → OnOk result (Spills line h class s after) →
    OnOk result (IsSettled line h s after)
spill_settles line class h s after (Ok x) of real some spills = inr (class, of, real, some, spills)
spill_settles line class h s after (Err e) of real some spills = tt

-- the stake was lent for it
pub comes_lends : (class : Option ℕ) (r p line : ℕ) (v w note : View) (t : Title) → ComesHome class r p line v w note t →
    (es : List Entry) × Lends r es v w
comes_lends None r p line v w note t comes = (_, comes.enters.lends)
comes_lends (Some class) r p line v w note t comes = (_, comes.1.lends)

module _ (s : StockValue) (h : Handle) (w : View) (r : ℕ) (es : List Entry) (aware : IsAware s.view) (back : IsBack h s)
    (lends : Lends r es (without_title h.title s.view) w) where
  -- each other title is free as before
  home_frees : (t : Title) → (h.title ≡ t → ⊥) → free_of w t ≡ free_of s.view t
  home_frees t other =
      free_kept (without_title h.title s.view) w t lends.keeps ∙ left_frees h.title s.view aware back.free t other

  -- each title that is free still is at its number
  home_numbers : IsAware (without_title h.title s.view) → IsAware w → (n : ℕ) (t : Title) → IsWellFormed n t → 0 < free_of w t →
      seen_of w t ≡ seen_of s.view t
  home_numbers left_aware after_aware n t well free =
      kept_number (without_title h.title s.view) w n t left_aware after_aware lends.keeps well
      (subst (λ k. 0 < k) (free_kept (without_title h.title s.view) w t lends.keeps) free)

  -- The lists are as they were, each title at its number.
  home_lists : IsStock s → IsAware (without_title h.title s.view) → IsAware w →
      SameLists (listed_in (record s { view = w })) (listed_in s)
  home_lists is left_aware after_aware p class =
      same_titles s.view w (titles_in s.caches p class)
      (λ t among.
      let well = is.lists.well p class t among in
      home_numbers left_aware after_aware well.0 t well.1
      (subst (λ k. 0 < k) (sym (free_kept (without_title h.title s.view) w t lends.keeps)) (left_listed s h is aware back p class t among)))

-- the seat that lent its stake for it, or kept it, has a sound thread state with its lists
pub delivered_has : {A E : Type 0} → SlotsStaySeen →
    (s : StockValue) (cs : WorkerCaches) (w note : View) (class : Option ℕ) (r p line : ℕ) (t : Title)
    (result : Result A E) → s.caches ≡ lists_in s.view cs → IsStock s → All (HoldsList s.view) cs.parts →
    OnOk result (ComesHome class r p line s.view w note t) → OnErr result (w ≡ s.view) → HasThem s w s.registers cs
delivered_has stays s cs w note class r p line t (Ok x) are is has comes same =
    kept_has stays s w cs are is has (comes_lends class r p line s.view w note t comes).1.keeps
delivered_has stays s cs w note class r p line t (Err e) are is has comes same = same_has s w cs are is has same

-- if the call failed and left the seat its view, the thread state with its lists is as it was
pub delivered_same : {A E : Type 0} (s : StockValue) (cs : WorkerCaches) (w : View) (result : Result A E) → HasThem s w s.registers cs →
    OnErr result (w ≡ s.view) → OnErr result (record s { view = w; caches = lists_in w cs } ≡ s)
delivered_same s cs w (Ok x) them same = tt
delivered_same s cs w (Err e) them same = after_as s w s.view s.registers cs same them

pub same_view : {A E : Type 0} (result : Result A E) (seat before : Share) → OnErr result (seat ≡ before) →
    OnErr result (seat.view ≡ before.view)
same_view (Ok x) seat before same = tt
same_view (Err e) seat before same = ap (λ (n : Share). n.view) same

-- a fact that holds anyway
pub any_ok : {A E : Type 0} (result : Result A E) (P : Type 0) → P → OnOk result P
any_ok (Ok x) P is = is
any_ok (Err e) P is = tt

-- By what the calls say: it was handed over, and its root took it.
pub went_home : (line : ℕ) (h : Handle) (s part after : StockValue) (note : View) → IsStock s → IsAware s.view → IsBack h s →
    part ≡ record s { view = without_title h.title s.view } → note ≡ note_of_title h.title s.view → IsAware part.view → IsAware after.view →
    ComesHome h.class part.thread h.partition line part.view after.view note h.title → after ≡ record part { view = after.view } →
    GoesHome line h s after
went_home line h s part after note is aware back part_is note_is part_aware after_aware comes same =
    let left = subst (λ (z : StockValue). IsAware z.view) part_is part_aware in
    let came : ComesHome h.class s.thread h.partition line (without_title h.title s.view) after.view
    (note_of_title h.title s.view) h.title =
    subst (λ (n : View). ComesHome h.class s.thread h.partition line (without_title h.title s.view) after.view n h.title) note_is
    (subst (λ (z : StockValue). ComesHome h.class z.thread h.partition line z.view after.view note h.title) part_is comes) in
    let whole : after ≡ record s { view = after.view } = same ∙ ap (λ (z : StockValue). record z { view = after.view }) part_is in
    let lends = comes_lends h.class s.thread h.partition line (without_title h.title s.view) after.view
    (note_of_title h.title s.view) h.title came in
    record {
      comes = came;
      same = whole;
      frees = home_frees s h after.view s.thread lends.0 aware back lends.1;
      numbers = home_numbers s h after.view s.thread lends.0 aware back lends.1 left after_aware;
      lists = subst (λ (z : StockValue). SameLists (listed_in z) (listed_in s)) (sym whole)
          (home_lists s h after.view s.thread lends.0 aware back lends.1 is left after_aware);
    }

-- ---- it comes back

-- no stake is lost by it
pub back_stake : (v n : View) (k : ℕ) → 0 < stake_of v k → 0 < stake_of (united v n) k
back_stake v n k stake = omega (arith, sum_by-append (λ (x : Stake). one (x.number == k)) v.stakes n.stakes)

-- the thread state with a note that has free titles alone
pub back_stock : BeginningsJoin → SlotsStaySeen → (s : StockValue) (n : View) (ts : List Title) → IsStock s → HasOnly ts n →
    IsAware (united s.view n) →
    IsStock (record s { view = united s.view n })
back_stock joins stays s n ts is has aware =
    let w = united s.view n in
    stock_kept s w s.registers is
    (record {
      count = is.handles.count;
      owns = λ t. let a = is.handles.owns t in let b = has.handles t in
          omega (arith, sum_by-append (λ (o : OwnTitle). one (same_title o.title t)) s.view.owns n.owns);
      refs = λ t. let a = is.handles.refs t in let b = has.handles t in
          omega (arith, sum_by-append (λ (u : Title). one (same_title u t)) s.view.refs n.refs);
      clean =
          let a = is.handles.clean in
          let b = no_own_clean n (λ t. let e = has.handles t in omega arith) in
          omega (arith, sum_by-append (λ (o : OwnTitle). one (is_unclean o.state)) s.view.owns n.owns);
      sealed = λ t. seals_beside s.view n t (let e = has.handles t in omega arith) ∙ is.handles.sealed t;
      made = λ k. made_for_more stays s.view w (λ q. (joins s.view n q aware).0) (register_in s.registers k) (is.handles.made k);
    })
    (record {
      small = is.stake.small;
      only = λ k other. let a = is.stake.only k other in let b = has.stakes k in
          omega (arith, sum_by-append (λ (x : Stake). one (x.number == k)) s.view.stakes n.stakes);
    })
    (λ h m. stays h s.view w m (joins s.view n h.partition aware).0)
    (λ t. omega (arith, sum_by-append (λ (u : Title). one (same_title u t)) s.view.frees n.frees))
