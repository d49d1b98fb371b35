-- A list of spans in which one is set, and how many of it pass a test.
use Rattle.std.proofs.Common.{◌≡◌, ◌≢◌, ℕ, zero, suc, ◌+◌, ◌<◌, ◌≤◌, Bool, true, false, cond, eqb, List, [], ◌∷◌, set, refl, sym, ◌∙◌, ap, arith, ◌⊎◌, inl, inr, Some}
use Rattle.std.specs.Prelude.{count_by, slice_get}
use Rattle.std.proofs.lemmas.Bool.{cases_Bool, eqb-true, eqb-false}
use Rattle.std.proofs.lemmas.List.Sums.{sum_by-cons}
use Rattle.pa_record.specs.Spans.{Span}
use Rattle.pa_lists.proofs.Members.{of_some, not_some}
use Rattle.pa_record.proofs.Entering.{one_if}

-- a member of a list in which one was set
pub set_same : {A : Type 0} (xs : List A) (i : ℕ) (x y : A) → slice_get xs i ≡ Some x → slice_get (set xs i y) i ≡ Some y
set_same [] i x y e = absurd (not_some x e)
set_same (z ∷ xs) zero x y e = refl
set_same (z ∷ xs) (suc i) x y e = set_same xs i x y e

pub set_other : {A : Type 0} (xs : List A) (i j : ℕ) (y : A) → j ≢ i → slice_get (set xs i y) j ≡ slice_get xs j
set_other [] i j y other = refl
set_other (z ∷ xs) zero zero y other = absurd (other refl)
set_other (z ∷ xs) zero (suc j) y other = refl
set_other (z ∷ xs) (suc i) zero y other = refl
set_other (z ∷ xs) (suc i) (suc j) y other = set_other xs i j y (λ e. other (ap suc e))

pub set_parts : {A : Type 0} (xs : List A) (i j : ℕ) (x y v : A) → slice_get xs i ≡ Some x → slice_get (set xs i y) j ≡ Some v →
    ((j ≡ i) × (v ≡ y)) ⊎ ((j ≢ i) × (slice_get xs j ≡ Some v))
set_parts xs i j x y v e f = elim (cases_Bool (eqb j i)) [
  | inl hit ↦
      let same = eqb-true j i hit in
      inl (same, of_some v y (sym f ∙ ap (slice_get (set xs i y)) same ∙ set_same xs i x y e))
  | inr miss ↦
      let other = eqb-false j i miss in
      inr (other, sym (set_other xs i j y other) ∙ f)
]

-- how many pass
pub count_set : (test : Span → Bool) (ss : List Span) (i : ℕ) (s t : Span) → slice_get ss i ≡ Some s →
    count_by test (set ss i t) + one_if (test s) ≡ count_by test ss + one_if (test t)
count_set test [] i s t e = absurd (not_some s e)
count_set test (u ∷ ss) zero s t e =
    let a = sum_by-cons (λ (z : Span). cond (test z) 1 0) t ss in
    let b = sum_by-cons (λ (z : Span). cond (test z) 1 0) u ss in
    let f : one_if (test u) ≡ one_if (test s) = ap (λ z. one_if (test z)) (of_some u s e) in
    omega arith
count_set test (u ∷ ss) (suc i) s t e =
    let a = sum_by-cons (λ (z : Span). cond (test z) 1 0) u (set ss i t) in
    let b = sum_by-cons (λ (z : Span). cond (test z) 1 0) u ss in
    let ih = count_set test ss i s t e in
    omega arith

-- of a test that is wider at least as many pass
one_most : (a b : Bool) → (a ≡ true → b ≡ true) → one_if a ≤ one_if b
one_most true b more = let f : one_if b ≡ 1 = ap one_if (more refl) in omega arith
one_most false b more = omega arith

counts_most : (narrow wide : Span → Bool) (ss : List Span) → ((v : Span) → narrow v ≡ true → wide v ≡ true) →
    count_by narrow ss ≤ count_by wide ss
counts_most narrow wide [] more = omega arith
counts_most narrow wide (u ∷ ss) more =
    let a = sum_by-cons (λ (z : Span). cond (narrow z) 1 0) u ss in
    let b = sum_by-cons (λ (z : Span). cond (wide z) 1 0) u ss in
    let one = one_most (narrow u) (wide u) (more u) in
    let ih = counts_most narrow wide ss more in
    omega arith

-- fewer spans pass a test than one that is wider if one passes only the latter
pub counts_less : (narrow wide : Span → Bool) (ss : List Span) (i : ℕ) (s : Span) → ((v : Span) → narrow v ≡ true → wide v ≡ true) →
    slice_get ss i ≡ Some s → narrow s ≡ false → wide s ≡ true →
    count_by narrow ss < count_by wide ss
counts_less narrow wide [] i s more e misses hits = absurd (not_some s e)
counts_less narrow wide (u ∷ ss) zero s more e misses hits =
    let a = sum_by-cons (λ (z : Span). cond (narrow z) 1 0) u ss in
    let b = sum_by-cons (λ (z : Span). cond (wide z) 1 0) u ss in
    let f : one_if (narrow u) ≡ 0 = ap (λ z. one_if (narrow z)) (of_some u s e) ∙ ap one_if misses in
    let g : one_if (wide u) ≡ 1 = ap (λ z. one_if (wide z)) (of_some u s e) ∙ ap one_if hits in
    let rest = counts_most narrow wide ss more in
    omega arith
counts_less narrow wide (u ∷ ss) (suc i) s more e misses hits =
    let a = sum_by-cons (λ (z : Span). cond (narrow z) 1 0) u ss in
    let b = sum_by-cons (λ (z : Span). cond (wide z) 1 0) u ss in
    let one = one_most (narrow u) (wide u) (more u) in
    let ih = counts_less narrow wide ss i s more e misses hits in
    omega arith
