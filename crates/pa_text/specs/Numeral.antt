-- How numbers are spelled. A number may be of any length.
use Rattle.std.specs.Prelude.{◌≡◌, ℕ, ◌+◌, ◌-◌, ◌*◌, ◌≤◌, List, [], ◌∷◌}
use Rattle.std.specs.List.{AllByRecursion}

-- the byte is one of `0` to `9`
abbrev pub IsDigit : ℕ → Type 0
IsDigit d = (48 ≤ d) × (d ≤ 57)

-- the number that digits spell after those that spelled n
abbrev pub value_after : ℕ → List ℕ → ℕ
value_after n [] = n
value_after n (d ∷ ds) = value_after (10 * n + (d - 48)) ds

-- the text spells the number n: at least one digit, and a leading `0` is the only digit
pub record IsNumeral (n : ℕ) (text : List ℕ) : Type 0 where
  pub digits : AllByRecursion IsDigit text
  pub written : text ≡ [] → ⊥
  pub canonical : (rest : List ℕ) → text ≡ 48 ∷ rest → rest ≡ []
  pub value : value_after 0 text ≡ n
