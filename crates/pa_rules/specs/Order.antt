-- The order of records, and of entries that are made for their lines.
use Rattle.std.specs.Prelude.{◌≡◌, ℕ, ◌<◌, ◌⊎◌, List, Some, Contains, slice_get}
use Rattle.pa_rules.specs.declared.played.Played.{Played}

-- x is the record of that line
abbrev pub IsOfLine : List Played → ℕ → Played → Type 0
IsOfLine ps line x = Contains ps x × (x.line ≡ line)

-- x comes before y: both are of one thread and x's line is less, or x's phase is
abbrev pub StandsBefore : Played → Played → Type 0
StandsBefore x y = ((x.thread ≡ y.thread) × (x.line < y.line)) ⊎ (x.phase < y.phase)

-- The entries, each of the line that `line` gives, are in the order of their records: those of one thread in the order of
-- its lines, and those of an earlier phase before those of a later one.
abbrev pub StandInOrder : {E : Type 0} → (E → ℕ) → List Played → List E → Type 0
StandInOrder {E = E} line ps es =
    (i j : ℕ) (e f : E) (x y : Played) → slice_get es i ≡ Some e → slice_get es j ≡ Some f →
    IsOfLine ps (line e) x → IsOfLine ps (line f) y → StandsBefore x y → i < j
