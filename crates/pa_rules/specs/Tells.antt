-- What a checker's answer says of the places of a clause, by their indices from 0.
use Rattle.std.specs.Prelude.{ℕ, ◌<◌, Option, Some, None}

-- an index is that of the first place that doesn't meet what is required of it, and none says that each place does
abbrev pub TellsFirst : (ℕ → Type 0) → Option ℕ → Type 0
TellsFirst Meets None = (i : ℕ) → Meets i
TellsFirst Meets (Some i) = (Meets i → ⊥) × ((j : ℕ) → j < i → Meets j)
