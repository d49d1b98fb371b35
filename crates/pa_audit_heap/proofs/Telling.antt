-- What two tellings give together, and what a pass tells at its exits.
use Rattle.std.proofs.Common.{ℕ, ◌<◌, ◌≤◌, Option, Some, None, arith, inl, inr}
use Rattle.std.proofs.lemmas.Bool.{cases_lt, lt-ltb, le-ltb}
use Rattle.pa_rules.specs.Tells.{TellsFirst}
use Rattle.pa_audit_heap.specs.Tells.{least_place}

pub tells_both : (P Q : ℕ → Type 0) (a b : Option ℕ) → TellsFirst P a → TellsFirst Q b → TellsFirst (λ i. P i × Q i) (least_place a b)
tells_both P Q None None p q = λ i. (p i, q i)
tells_both P Q None (Some j) p q = (λ both. q.0 both.1, λ i less. (p i, q.1 i less))
tells_both P Q (Some i) None p q = (λ both. p.0 both.0, λ j less. (p.1 j less, q j))
tells_both P Q (Some i) (Some j) p q = elim (cases_lt j i) [
  | inl less ↦ rw (lt-ltb j i less) (λ both. q.0 both.1, λ k below. (p.1 k (omega arith), q.1 k below))
  | inr more ↦ rw (le-ltb j i more) (λ both. p.0 both.0, λ k below. (p.1 k below, q.1 k (omega arith)))
]

-- an answer that is right for the demand P is right for Q, if each place that meets one of them meets the other
pub tells_same : (P Q : ℕ → Type 0) (a : Option ℕ) → ((i : ℕ) → P i → Q i) → ((i : ℕ) → Q i → P i) → TellsFirst P a → TellsFirst Q a
tells_same P Q None f g p = λ i. f i (p i)
tells_same P Q (Some i) f g p = (λ q. p.0 (g i q), λ j less. f j (p.1 j less))

-- if each place up to the end meets the demand, and nothing is asked past the end, no place fails
pub tells_none : (P : ℕ → Type 0) (n : ℕ) → ((j : ℕ) → j < n → P j) → ((j : ℕ) → n ≤ j → P j) → TellsFirst P None
tells_none P n here past j = elim (cases_lt j n) [ inl less ↦ here j less | inr more ↦ past j more ]
