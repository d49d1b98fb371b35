-- The record on a line.
use Rattle.std.specs.Prelude.{◌≡◌, ℕ, List}
use Rattle.pa_rules.specs.declared.played.Played.{Played}
use Rattle.pa_rules.specs.RecordDemands.{IsRecord}

-- record i of the list is on this line
abbrev pub IsOnLine : List Played → ℕ → ℕ → Type 0
IsOnLine ps line i = (x : Played) × IsRecord ps i x × (x.line ≡ line)

-- no record of the list is on this line
abbrev pub NoneOnLine : List Played → ℕ → Type 0
NoneOnLine ps line = (i : ℕ) → IsOnLine ps line i → ⊥
