-- What a checker returns: that each place meets its demand, or the first that doesn't.
use Rattle.std.specs.Prelude.{ℕ, nat_lt, if◌then◌else◌, Option, Some, None}
use Rattle.pa_rules.specs.RecordDemands.{IsAbove}

-- the lesser of two places, or the only one
abbrev pub least_place : Option ℕ → Option ℕ → Option ℕ
least_place None b = b
least_place (Some i) None = Some i
least_place (Some i) (Some j) = Some (if nat_lt j i then j else i)

-- Nothing is found if each entry of the journals meets what is required of it,
-- and else the first that doesn't, by its partition and index.
abbrev pub TellsEntry : (ℕ → ℕ → Type 0) → Option (ℕ × ℕ) → Type 0
TellsEntry Meets None = (p j : ℕ) → Meets p j
TellsEntry Meets (Some (p, j)) = (Meets p j → ⊥) × ((q i : ℕ) → IsAbove q i p j → Meets q i)
