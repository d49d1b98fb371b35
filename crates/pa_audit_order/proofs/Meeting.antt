-- What the clause of the order in time requires of a record, by a walk's cut, and over the threads.
use Rattle.std.proofs.Common.{◌≡◌, ℕ, ◌+◌, ◌<◌, ◌≤◌, Bool, true, List, [], get_or, length, Option, Some, None, min, refl, sym, ◌∙◌, ap, subst, arith, inl, inr}
use Rattle.std.specs.Prelude.{All, Contains, slice_get}
use Rattle.std.proofs.lemmas.Bool.{cases_lt}
use Rattle.std.proofs.lemmas.Option.{slice_get_within}
use Rattle.pa_slot.specs.Count.{number_of}
use Rattle.pa_slot.specs.Run.{Mark}
use Rattle.pa_record.specs.declared.history.CellEntry.{CellEntry}
use Rattle.pa_lists.proofs.Members.{of_some, not_in_none}
use Rattle.pa_rules.specs.declared.played.Played.{Played}
use Rattle.pa_rules.specs.declared.verdict.Place.TheVariants as places
use Rattle.pa_rules.specs.Played.{mark_of}
use Rattle.pa_rules.specs.RecordDemands.{IsRecord, SeenDemand}
use Rattle.pa_rules.specs.Seen.{IsBefore, Standing, Handing, Between, left_number}
use Rattle.pa_rules.specs.Tells.{TellsFirst}
use Rattle.pa_lists.proofs.Indexed.{at_in, in_at, one_at, here_is}
use Rattle.pa_audit_records.specs.Keys.{word_key}
use Rattle.pa_rules.specs.Rising.{RiseByLine}
use Rattle.pa_audit_records.specs.Rows.{IsPlayedWithin}
use Rattle.pa_audit_records.proofs.Putting.{same_key}
use Rattle.pa_rules.proofs.Rising.{rises}
use Rattle.pa_audit_order.specs.Looks.{IsMarked, FindsEnough}
use Rattle.pa_audit_order.specs.Steps.{IsStepTo, ArePrevious}
use Rattle.pa_audit_order.specs.Cuts.{IsAhead, IsAheadAt, IsNear, IsTakenUp, IsGrown, IsOrderly, TellsOf, TellsBelow, earlier_of}
use Rattle.pa_audit_order.proofs.Cutting.{before_marked}

-- ---- what is ahead

-- what steps to a record of the walk is ahead of it
pub step_ahead : (cells : ℕ → List CellEntry) (ps : List Played) (k : ℕ) (x y : Played) → RiseByLine ps → IsRecord ps k y →
    IsStepTo cells x y → IsAheadAt cells ps k x
step_ahead cells ps k x y rising here step w at j z from there of =
    let same : w ≡ y = one_at ps k w y at here in
    let first : IsBefore cells ps x y = before step in
    elim (cases_lt k j) [
      | inl less ↦ Between y (at_in ps k y here) first
          (Standing (inl (ap (λ (v : Played). v.thread) (sym same) ∙ sym of, rises ps k j y z rising here there less)))
      | inr most ↦
          let e : k ≡ j = omega (arith, from, most) in
          subst (λ (v : Played). IsBefore cells ps x v) (one_at ps j y z (ap (slice_get ps) (sym e) ∙ here) there) first
    ]
  where
    before : IsStepTo cells x y → IsBefore cells ps x y
    before (inl stands) = Standing stands
    before (inr hands) = Handing hands

-- a record with a step to one that is ahead is ahead too
pub step_behind : (cells : ℕ → List CellEntry) (ps : List Played) (k i : ℕ) (x y : Played) → IsRecord ps i y → IsStepTo cells x y →
    IsAheadAt cells ps k y → IsAheadAt cells ps k x
step_behind cells ps k i x y here step ahead w at j z from there of =
    Between y (at_in ps i y here) (before step) (ahead w at j z from there of)
  where
    before : IsStepTo cells x y → IsBefore cells ps x y
    before (inl stands) = Standing stands
    before (inr hands) = Handing hands

-- from the walk to its record, and on to the next
pub ahead_at : (cells : ℕ → List CellEntry) (ps : List Played) (t k : ℕ) (y x : Played) → IsRecord ps k y → y.thread ≡ t →
    IsAhead cells ps t k x → IsAheadAt cells ps k x
ahead_at cells ps t k y x here of ahead w at j z from there mine =
    let same : w ≡ y = one_at ps k w y at here in
    ahead j z from there (mine ∙ ap (λ (v : Played). v.thread) same ∙ of)

pub ahead_on : (cells : ℕ → List CellEntry) (ps : List Played) (t k : ℕ) (y x : Played) → IsRecord ps k y → y.thread ≡ t →
    IsAheadAt cells ps k x → IsAhead cells ps t (k + 1) x
ahead_on cells ps t k y x here of ahead j z from there mine = ahead y here j z (omega (arith, from)) there (mine ∙ sym of)

pub ahead_next : (cells : ℕ → List CellEntry) (ps : List Played) (t k : ℕ) (x : Played) →
    IsAhead cells ps t k x → IsAhead cells ps t (k + 1) x
ahead_next cells ps t k x ahead j z from there of = ahead j z (omega (arith, from)) there of

-- ---- a record's demand

-- with nothing on the stack, the steps to marked records come from marked ones
closed : (cells : ℕ → List CellEntry) (ps : List Played) (A : Played → Type 0) (marked : List Bool) (floor : ℕ) (left : ℕ → Option ℕ) →
    IsGrown cells ps A (length ps) marked [] floor left
    → (i : ℕ) → IsMarked marked i → (j : ℕ) → IsNear cells ps j i → IsMarked marked j
closed cells ps A marked floor left h i is j near =
    only (h.near i j (λ e. let low = slice_get_within marked i true is in let long = h.long in omega (arith, low, long, e)) is near)
  where
    only : IsTakenUp marked [] j → IsMarked marked j
    only (inl there) = there
    only (inr among) = absurd (not_in_none j among)

pub fresh_met : (cells : ℕ → List CellEntry) (ps : List Played) (A : Played → Type 0) (table : List (Option ℕ)) (marked : List Bool)
    (floor k : ℕ) (left : ℕ → Option ℕ) (y : Played)
    → RiseByLine ps → ArePrevious ps table (length ps)
    → IsGrown cells ps A (length ps) marked [] floor left → ((j : ℕ) → IsNear cells ps j k → IsMarked marked j) → IsRecord ps k y
    → IsOrderly marked k left (mark_of y) → SeenDemand cells ps (places.Record k)
fresh_met cells ps A table marked floor k left y rising tables h near here (new, enough) =
    let all = closed cells ps A marked floor left h in
    let has : (j : ℕ) (x : Played) → IsRecord ps j x → IsBefore cells ps x y →
    IsMarked marked j = λ j x at before. before_marked cells ps table marked k j x y rising tables all near at here before in
    λ z at.
    let same : y ≡ z = one_at ps k y z here at in
    subst
    (λ (w : Played). (IsBefore cells ps w w → ⊥) × ((x : Played) (m n : Mark) → Contains ps x → IsBefore cells ps x w → mark_of x ≡ Some m
    → mark_of w ≡ Some n → m.slot ≡ n.slot → left_number m ≤ number_of n.found))
    same (
      λ before. new (has k y here before),
      λ x m n among before tells tells' slot.
          let (j, there) = in_at ps x among in
          let (start, number, at', least) = h.numbers.whole j x m (has j x there before) there tells in
          let asks : FindsEnough left (Some n) = subst (FindsEnough left) tells' enough in
          let most = asks number (ap (λ s. left (word_key s 0)) (sym slot) ∙ at') in
          omega (arith, least, most),
    )

pub met_fresh : (cells : ℕ → List CellEntry) (ps : List Played) (marked : List Bool) (floor k : ℕ) (left : ℕ → Option ℕ) (y : Played)
    → IsGrown cells ps (IsAheadAt cells ps k) (length ps) marked [] floor left → IsRecord ps k y
    → ((n : Mark) → mark_of y ≡ Some n → n.slot.start < 4294967296) → SeenDemand cells ps (places.Record k) →
    IsOrderly marked k left (mark_of y)
met_fresh cells ps marked floor k left y h here sized demand =
    let (never, rising) = demand y here in (
      λ is. never (h.ahead k y (inl is) here y here k y (omega arith) here refl),
      enough (mark_of y) refl rising,
    )
  where
    enough : (o : Option Mark) → mark_of y ≡ o
        → ((x : Played) (m n : Mark) → Contains ps x → IsBefore cells ps x y → mark_of x ≡ Some m → mark_of y ≡ Some n → m.slot ≡ n.slot →
        left_number m ≤ number_of n.found) → FindsEnough left o
    enough None is rising = tt
    enough (Some n) is rising = λ number at.
        let (i, x, m, marks, there, tells, start, key, mine) = h.numbers.hit (word_key n.slot 0) number at in
        let slot = same_key m.slot n.slot start (sized n is) (omega (arith, key)) in
        let before = h.ahead i x (inl marks) there y here k y (omega arith) here refl in
        let most = rising x m n (at_in ps i x there) before tells is slot in
        omega (arith, most, mine)

-- ---- the threads

met_below : (ps : List Played) (Meets : ℕ → Type 0) (t j : ℕ) (x : Played) → (x.thread < t → Meets j) →
    (x.thread ≡ t → Meets j) → x.thread < t + 1 → Meets j
met_below ps Meets t j x early here less = elim (cases_lt x.thread t) [
  | inl before ↦ early before
  | inr late ↦ here (omega (arith, less, late))
]

pub below_more : (ps : List Played) (Meets : ℕ → Type 0) (t : ℕ) (first told : Option ℕ) → TellsBelow ps t Meets first →
    TellsOf ps t Meets told → TellsBelow ps (t + 1) Meets (earlier_of first told)
below_more ps Meets t None None h k = λ i x at less. met_below ps Meets t i x (h i x at) (k i x at) less
below_more ps Meets t None (Some b) h (unmet, before) =
    (unmet, λ j x low at less. met_below ps Meets t j x (h j x at) (before j x low at) less)
below_more ps Meets t (Some a) None (unmet, before) k =
    (unmet, λ j x low at less. met_below ps Meets t j x (before j x low at) (k j x at) less)
below_more ps Meets t (Some a) (Some b) (unmet, before) (unmet', before') = (
  least,
  λ j x low at less. met_below ps Meets t j x (before j x (omega (arith, low)) at) (before' j x (omega (arith, low)) at) less,
)
  where
    least : Meets (min a b) → ⊥
    least met = elim (cases_lt a b) [
      | inl less ↦ let same : min a b ≡ a = omega (arith, less) in unmet (subst Meets same met)
      | inr most ↦ let same : min a b ≡ b = omega (arith, most) in unmet' (subst Meets same met)
    ]

thread_below : (ps : List Played) (i : ℕ) (x : Played) → All IsPlayedWithin ps → IsRecord ps i x → x.thread < 16
thread_below ps i x within at =
    let below = slice_get_within ps i x at in
    let one : get_or ps i x ≡ x = of_some (get_or ps i x) x (sym (here_is ps i x below) ∙ at) in
    subst (λ (z : Played). z.thread < 16) one (within i x below).0

pub below_all : (cells : ℕ → List CellEntry) (ps : List Played) (first : Option ℕ) → All IsPlayedWithin ps
    → TellsBelow ps 16 (λ i. SeenDemand cells ps (places.Record i)) first → TellsFirst (λ i. SeenDemand cells ps (places.Record i)) first
below_all cells ps None within h = λ i y at. h i y at (thread_below ps i y within at) y at
below_all cells ps (Some b) within (unmet, before) = (unmet, λ j less y at. before j y less at (thread_below ps j y within at) y at)
