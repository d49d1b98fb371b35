-- What a seat has that asked a root and took its note.
use Rattle.std.proofs.Common.{◌≡◌, ℕ, ◌<◌, List, [], ◌∷◌, ◌++◌, length, Option, Some, None, refl, sym, ◌∙◌, ap, subst, arith, inl, inr}
use Rattle.std.specs.Prelude.{Contains}
use Rattle.std.proofs.lemmas.List.{append-nil}
use Rattle.std.proofs.lemmas.List.Elements.{Contains-append_left, Contains-append_right}
use Rattle.pa_slot.specs.declared.title.Title.{Title}
use Rattle.pa_slot.specs.Titles.{IsWellFormed}
use Rattle.pa_record.specs.declared.pool.PoolEntry.{PoolEntry}
use Rattle.pa_record.specs.declared.root.RootAct.{RootAct}
use Rattle.pa_record.specs.Root.{asked_by, names}
use Rattle.pa_record.specs.Spans.{name_of}
use Rattle.pa_lists.proofs.Members.{in_cases, not_in_none, first_in, later_in}
use Rattle.pa_region.specs.declared.view.Entry.{Entry}
use Rattle.pa_region.specs.declared.view.Entry.TheVariants.{Entered, Uncut}
use Rattle.pa_region.specs.declared.view.Made.{Made}
use Rattle.pa_region.specs.declared.view.View.{View}
use Rattle.pa_region.specs.Views.{free_of, seen_of}
use Rattle.pa_region.specs.Lists.{list_of, IsBeginning}
use Rattle.pa_region.specs.Lending.{Keeps}
use Rattle.pa_region.specs.Takes.{BeginningsJoin, SeenJoins, FreeNumbersStay}
use Rattle.pa_region.specs.Hands.{united}
use Rattle.pa_region.specs.Aware.{IsAware}
use Rattle.pa_region.proofs.SeenJoin.{seen_append}
use Rattle.pa_region.proofs.TakeLaws.{left_begins, right_begins, left_number, right_number}
use Rattle.pa_region.proofs.LendBack.{begins_on, kept_number}
use Rattle.pa_logs.specs.Touches.{touches}
use Rattle.pa_pool.specs.Calls.{take_entry}
use Rattle.pa_root.specs.Making.{IsEnteredAt, EntersTwo}
use Rattle.pa_root.specs.Handing.{HasOnly, EntersFor, numbered_by, root_entry}
use Rattle.pa_root.proofs.Together.{free_both}
use Rattle.pa_op_specs.specs.Stocks.{StockValue, IsStock, titles_in}
use Rattle.pa_thread_state.proofs.Parking.{taken_rests}
use Rattle.pa_op_specs.proofs.Entered.{Entering, entering_both, rests_enters, one_enters, two_enters}
use Rattle.pa_op_specs.proofs.AskedFor.{Asks, asks_one, asks_two}
use Rattle.pa_root.proofs.Seeing.{free_kept}

joins : BeginningsJoin
joins v w k both = (left_begins v w k both, right_begins v w k both)

seen_joins : SeenJoins
seen_joins v w t = seen_append t v.seen w.seen

stay : FreeNumbersStay
stay v w n t a b both long well = (λ free. left_number v w n t a both long well free, λ free. right_number v w n t b both long well free)

-- ---- what was asked of a root

-- What the calls of a root say of an entry that names one of the pool or none: of the caller's seat, which has the view u, and w
-- after it took the note.
pub record Asking (line p : ℕ) (acts : List RootAct) (r : ℕ) (v u w : View) : Type 0 where
  pub es : List Entry
  pub entering : Entering r line es v u
  pub quiet : touches es ≡ []
  pub uncut : (t : Title) → Contains es (Uncut t) → ⊥
  pub asks : Asks line p acts es w
  pub keeps : Keeps v u

one_uncut : (p : ℕ) (m : Made) (t : Title) → Contains (Entered p m ∷ []) (Uncut t) → ⊥
one_uncut p m t among = elim (in_cases (Entered p m) (Uncut t) [] among)
    [ inl same ↦ not_it p m same | inr none ↦ not_in_none (Uncut t) none ]
  where
    not_it : (p : ℕ) (m : Made) → Entered p m ≡ Uncut t → ⊥
    not_it p m e = cc

pub two_uncut : (p q : ℕ) (k m : Made) (t : Title) → Contains (Entered q k ∷ Entered p m ∷ []) (Uncut t) → ⊥
two_uncut p q k m t among = elim (in_cases (Entered q k) (Uncut t) (Entered p m ∷ []) among) [
  | inl same ↦ one_uncut q k t (0, omega arith, same)
  | inr later ↦ one_uncut p m t later
]

pub two_asking : (a j r p line : ℕ) (taken : PoolEntry) (a_root : RootAct) (v u w : View) →
    EntersTwo a j r p [] taken (root_entry line a_root) v u → p < 4 →
    asked_by a_root ≡ Some a → taken.partition ≡ p → taken.line ≡ line → IsBeginning (list_of 4 u) (list_of 4 w) →
    Asking line p (a_root ∷ []) r v u w
two_asking a j r p line taken a_root v u w two low names at of more = record {
  es = Entered 4 two.pool ∷ Entered p two.made ∷ [];
  entering = two_enters a j r p line [] taken a_root v u two (omega arith) of (λ e among. absurd (not_in_none e among));
  quiet = refl;
  uncut = two_uncut p 4 two.pool two.made;
  asks = asks_two a j r p line taken a_root v u w two low names at more;
  keeps = two.lends.keeps;
}

pub for_asking : (j r p line : ℕ) (asked found : Option ℕ) (a_root : RootAct) (v u w : View) → EntersFor j r p line asked found a_root v u →
    p < 4 →
    asked_by a_root ≡ asked → IsBeginning (list_of 4 u) (list_of 4 w) → Asking line p (a_root ∷ []) r v u w
for_asking j r p line None found a_root v u w one low names more = record {
  es = Entered p one.made ∷ [];
  entering = one_enters j r p line a_root v u one (omega arith);
  quiet = refl;
  uncut = one_uncut p one.made;
  asks = asks_one j r p line a_root v u w one low names;
  keeps = one.lends.keeps;
}
for_asking j r p line (Some a) found a_root v u w two low names more =
    two_asking a j r p line (take_entry line p 1 found) a_root v u w two low names refl refl more

-- it is among those that the seat which took the note has seen
pub still_there : (j r p : ℕ) (numbers : List ℕ) (v u w : View) (m : Made) → IsEnteredAt j r p numbers v u m →
    IsBeginning (list_of p u) (list_of p w) → Contains (list_of p w) m
still_there j r p numbers v u w m at more =
    let (rest, is) = begins_on (at.earlier ++ m ∷ []) (list_of p u) (list_of p w) at.stands more in
    subst (λ l. Contains l m) (sym is)
    (Contains-append_left (at.earlier ++ m ∷ []) rest m (Contains-append_right at.earlier (m ∷ []) m (first_in m [])))

-- a numbered title has its name
pub named : (v : View) (ts : List Title) (t : Title) → Contains ts t → Contains (names (numbered_by v ts)) (name_of t)
named v [] t among = absurd (not_in_none t among)
named v (u ∷ ts) t among = elim (in_cases u t ts among) [
  | inl same ↦ subst (λ n. Contains (name_of u ∷ names (numbered_by v ts)) n) (ap (λ x. name_of x) same)
      (first_in (name_of u) (names (numbered_by v ts)))
  | inr later ↦ later_in (name_of u) (name_of t) (names (numbered_by v ts)) (named v ts t later)
]

-- What a seat has that asked a root and took its note. It has what it had, at the same numbers, and the note's titles, at the
-- note's numbers. None of them is on a list.
pub record Took (s : StockValue) (u n : View) (titles : List Title) : Type 0 where
  pub keeps : Keeps s.view u
  pub has : HasOnly titles n
  pub awares : IsAware s.view × IsAware u × IsAware n × IsAware (united u n)
  pub long : length u.words ≡ length n.words

module _ (s : StockValue) (u n : View) (titles : List Title) (is : IsStock s) (took : Took s u n titles) where
  pub took_free : (t : Title) → Contains titles t → 0 < free_of (united u n) t
  took_free t among = let e = free_both u n t in let f = (took.has.frees t).1 among in omega arith

  -- a title that was free before isn't one of them, is free still, and is at its number
  pub took_other : (t : Title) → 0 < free_of s.view t → Contains titles t → ⊥
  took_other t free among =
      let e = free_both u n t in
      let f = (took.has.frees t).1 among in
      let h = free_kept s.view u t took.keeps in
      let once = took.awares.3.free_once t in
      omega arith

  pub took_still : (t : Title) → 0 < free_of s.view t → 0 < free_of (united u n) t
  took_still t free = let e = free_both u n t in let h = free_kept s.view u t took.keeps in omega arith

  pub took_kept : (words : ℕ) (t : Title) → IsWellFormed words t → 0 < free_of s.view t → seen_of (united u n) t ≡ seen_of s.view t
  took_kept words t well free =
      let there : 0 < free_of u t = let h = free_kept s.view u t took.keeps in omega arith in
      left_number u n words t took.awares.1 took.awares.3 took.long well there
      ∙ kept_number s.view u words t took.awares.0 took.awares.1 took.keeps well free

  pub took_new : (q d : ℕ) (t : Title) → Contains (titles_in s.caches q d) t → Contains titles t → ⊥
  took_new q d t listed among = took_other t (is.lists.free q d t listed) among

  -- a listed title is at its number
  pub took_same : (q d : ℕ) (t : Title) → Contains (titles_in s.caches q d) t → seen_of (united u n) t ≡ seen_of s.view t
  took_same q d t listed =
      let well = is.lists.well q d t listed in took_kept well.0 t well.1 (is.lists.free q d t listed)

  -- a title that came with the note has in the united view the number that the note has seen
  pub took_number : (words : ℕ) (t : Title) → IsWellFormed words t → Contains titles t → seen_of (united u n) t ≡ seen_of n t
  took_number words t well among = right_number u n words t took.awares.2 took.awares.3 took.long well ((took.has.frees t).1 among)

  -- the log segment after it
  pub took_enters : (line : ℕ) (es : List Entry) → Entering s.thread line es s.view u → Entering s.thread line es s.view (united u n)
  took_enters line es entering =
      subst (λ xs. Entering s.thread line xs s.view (united u n)) (append-nil es)
      (entering_both s.thread line es [] s.view u (united u n) entering
      (rests_enters s.thread line u (united u n)
      (taken_rests joins seen_joins stay u n took.awares.1 took.awares.2 took.awares.3 took.long took.has.stakes)))
