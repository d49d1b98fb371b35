-- Lists made number by number, of which one number of a range has a piece.
use Rattle.std.proofs.Common.{◌≡◌, ℕ, zero, suc, ◌+◌, ◌<◌, ◌≤◌, List, [], ◌++◌, refl, ◌∙◌, ap, arith, inl, inr, append-nil}
use Rattle.std.specs.List.{flat_map, range_with_len}
use Rattle.std.proofs.lemmas.Bool.{cases_eq}

-- the range is past it
past_range : {A : Type 0} (f : ℕ → List A) (p a n : ℕ) → p < a → ((q : ℕ) → (q ≡ p → ⊥) → f q ≡ []) → flat_map f (range_with_len a n) ≡ []
past_range f p a zero up none = refl
past_range f p a (suc n) up none = ap (λ ys. ys ++ flat_map f (range_with_len (a + 1) n)) (none a (λ e. omega arith)) ∙
    past_range f p (a + 1) n (omega arith) none

pub in_range : {A : Type 0} (f : ℕ → List A) (p a n : ℕ) → a ≤ p → p < a + n → ((q : ℕ) → (q ≡ p → ⊥) → f q ≡ []) →
    flat_map f (range_with_len a n) ≡ f p
in_range f p a zero low high none = absurd (omega arith)
in_range f p a (suc n) low high none = elim (cases_eq a p) [
  | inl here ↦ ap (λ ys. f a ++ ys) (past_range f p (a + 1) n (omega arith) none) ∙ append-nil (f a) ∙ ap f here
  | inr other ↦ ap (λ ys. ys ++ flat_map f (range_with_len (a + 1) n)) (none a other) ∙
      in_range f p (a + 1) n (omega arith) (omega arith) none
]
