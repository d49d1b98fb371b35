-- Sums over the log segments of records, and the entries that count in them.
use Rattle.std.proofs.Common.{◌≡◌, ℕ, ◌<◌, ◌≤◌, List, [], ◌∷◌, refl, sym, ◌∙◌, ap, arith, inl, inr}
use Rattle.std.specs.Prelude.{Contains}
use Rattle.std.specs.List.{sum_by}
use Rattle.std.proofs.lemmas.List.Sums.{sum_by-cons}
use Rattle.std.proofs.lemmas.Bool.{cases_lt, eq-eqb, and_parts}
use Rattle.pa_slot.specs.declared.title.Title.{Title}
use Rattle.pa_slot.specs.declared.word.Step.{Step}
use Rattle.pa_slot.specs.Count.{number_of}
use Rattle.pa_slot.specs.Titles.{same_title}
use Rattle.pa_slot.proofs.Same.{title_tells, title_self}
use Rattle.pa_lists.proofs.Members.{not_in_none, first_in, later_in, in_cases}
use Rattle.pa_region.specs.declared.view.Entry.{Entry}
use Rattle.pa_region.specs.declared.view.Entry.TheVariants.{Counted, Looked, Read, Added, Entered, Uncut}
use Rattle.pa_region.specs.Views.{counted_at, counted_as, looked_at, step_number}
use Rattle.pa_region.proofs.LogPart.{as_at}
use Rattle.pa_region.proofs.OneRead.{one_true}
use Rattle.pa_region.proofs.Standing.{as_tells}
use Rattle.pa_slot.specs.declared.word.SlotName.{SlotName}
use Rattle.pa_logs.specs.Told.{ToldRecord, told_of}
use Rattle.pa_logs.specs.Touches.{title_of}

module _ {A : Type 0} where
  -- a member's amount is part of the sum
  pub sum_in : (f : A → ℕ) (xs : List A) (x : A) → Contains xs x → f x ≤ sum_by f xs
  sum_in f [] x among = absurd (not_in_none x among)
  sum_in f (y ∷ ys) x among =
      let c = sum_by-cons f y ys in
      elim (in_cases y x ys among) [
        | inl e ↦ let same : f y ≡ f x = ap f e in omega arith
        | inr rest ↦ let again = sum_in f ys x rest in omega arith
      ]

  -- a sum that isn't 0 has a member that isn't
  pub sum_some : (f : A → ℕ) (xs : List A) → 0 < sum_by f xs → (x : A) × Contains xs x × (0 < f x)
  sum_some f [] h = absurd (omega arith)
  sum_some f (y ∷ ys) h =
      let c = sum_by-cons f y ys in
      elim (cases_lt 0 (f y)) [
        | inl some_here ↦ (y, first_in y ys, some_here)
        | inr none ↦ let (x, among, more) = sum_some f ys (omega arith) in (x, later_in y x ys among, more)
      ]

  -- a sum of at most 1 has one such member
  pub sum_one : (f : A → ℕ) (xs : List A) (x y : A) → sum_by f xs ≤ 1 → Contains xs x → Contains xs y → 0 < f x → 0 < f y → x ≡ y
  sum_one f [] x y few first second a b = absurd (not_in_none x first)
  sum_one f (z ∷ zs) x y few first second a b =
      let c = sum_by-cons f z zs in
      elim (in_cases z x zs first) [
        | inl e ↦ elim (in_cases z y zs second) [
          | inl g ↦ sym e ∙ g
          | inr rest ↦ let same : f z ≡ f x = ap f e in let more = sum_in f zs y rest in absurd (omega arith)
        ]
        | inr before ↦ elim (in_cases z y zs second) [
          | inl g ↦ let same : f z ≡ f y = ap f g in let more = sum_in f zs x before in absurd (omega arith)
          | inr rest ↦ sum_one f zs x y (omega arith) before rest a b
        ]
      ]

-- an entry of a record's log segment is weighed
pub told_in : (ts : List ToldRecord) (x : ToldRecord) (e : Entry) (weight : Entry → ℕ) → Contains ts x → Contains x.stretch e →
    weight e ≤ told_of ts weight
told_in ts x e weight among there =
    let a = sum_in weight x.stretch e there in
    let b = sum_in (λ (y : ToldRecord). sum_by weight y.stretch) ts x among in
    omega arith

-- if the records' entries weigh something, one that weighs something is in a record's log segment
pub told_some : (ts : List ToldRecord) (weight : Entry → ℕ) → 0 < told_of ts weight → (x : ToldRecord) × (e : Entry) × Contains ts x ×
    Contains x.stretch e × (0 < weight e)
told_some ts weight h =
    let (x, among, more) = sum_some (λ (y : ToldRecord). sum_by weight y.stretch) ts h in
    let (e, there, here) = sum_some weight x.stretch more in
    (x, e, among, there, here)

-- a counted step weighs 1 as itself
pub counted_self : (t : Title) (p : Step) (w v : ℕ) → counted_as t p w v (Counted t p w v) ≡ 1
counted_self t p w v = rw (title_self t, eq-eqb (step_number p) (step_number p) refl, eq-eqb w w refl, eq-eqb v v refl) refl

pub counted_there : (t : Title) (p : Step) (w v : ℕ) → 0 < counted_at t (number_of w) (Counted t p w v)
counted_there t p w v =
    let a = counted_self t p w v in
    let b = as_at t p w v (Counted t p w v) in
    omega arith

pub looked_self : (t : Title) (w : ℕ) → looked_at t w (Looked t w) ≡ 1
looked_self t w = rw (title_self t, eq-eqb w w refl) refl

-- an entry that counts as a step is that step
pub as_entry : (t : Title) (p : Step) (w v : ℕ) (e : Entry) → 0 < counted_as t p w v e → e ≡ Counted t p w v
as_entry t p w v (Counted u q f x) h =
    let is = as_tells t p w v u q f x h in
    let all = and_parts (same_title u t) _ (one_true _ h) in
    elim (title_tells u t) [
      | inl y ↦ entry_is u t q p f w x v y.1 is.step_same is.word_same is.value_same
      | inr n ↦ absurd cc
    ]
  where
    entry_is : (a b : Title) (q p : Step) (f w x v : ℕ) → a ≡ b → q ≡ p → f ≡ w → x ≡ v → Counted a q f x ≡ Counted b p w v
    entry_is a b q p f w x v c d e g = cc
as_entry t p w v (Looked u f) h = absurd (omega arith)
as_entry t p w v (Read u place x since owned unclean) h = absurd (omega arith)
as_entry t p w v (Added word bytes) h = absurd (omega arith)
as_entry t p w v (Entered keeper made) h = absurd (omega arith)
as_entry t p w v (Uncut u) h = absurd (omega arith)

-- two entries of steps that are one, of slots' titles, have one slot, one step and one word
pub title_same : (a b : Title) (p q : Step) (w u x z : ℕ) → Counted a p w x ≡ Counted b q u z → a ≡ b
title_same a b p q w u x z e = cc

abbrev slot_name : Title → SlotName
slot_name t = record { start = t.start; born = t.born }

pub entry_slot : (sizes : SlotName → ℕ) (s r : SlotName) (p q : Step) (w u x z : ℕ) →
    Counted (title_of sizes s) p w x ≡ Counted (title_of sizes r) q u z → r ≡ s
entry_slot sizes s r p q w u x z e = ap slot_name (sym (title_same (title_of sizes s) (title_of sizes r) p q w u x z e))

pub entry_step : (a b : Title) (p q : Step) (w u x z : ℕ) → Counted a p w x ≡ Counted b q u z → (q ≡ p) × (u ≡ w)
entry_step a b p q w u x z e = (cc, cc)
