-- What a checker's answer says, from what its walk knows.
use Rattle.std.proofs.Common.{◌≡◌, ℕ, ◌<◌, ◌≤◌, Some, None, sym, subst, arith, inl, inr}
use Rattle.std.proofs.lemmas.Bool.{cases_lt}
use Rattle.pa_rules.specs.Tells.{TellsFirst}

-- the first place that doesn't
pub tells_at : (P : ℕ → Type 0) (i at : ℕ) → at ≡ i → (P i → ⊥) → ((j : ℕ) → j < i → P j) → TellsFirst P (Some at)
tells_at P i at same unmet met = subst (λ k. TellsFirst P (Some k)) (sym same) (unmet, met)

-- no place fails if each so far meets its demand and nothing is asked past the end
pub tells_none : (P : ℕ → Type 0) (n i : ℕ) → n ≤ i → ((j : ℕ) → j < i → P j) → ((j : ℕ) → n ≤ j → P j) → TellsFirst P None
tells_none P n i end met past j = elim (cases_lt j i) [
  | inl less ↦ met j less
  | inr most ↦ past j (omega (arith, end, most))
]
