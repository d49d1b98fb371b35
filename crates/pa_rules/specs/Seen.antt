-- What a thread has seen: no record finds an older number of a slot than one before it left.
use Rattle.std.specs.Prelude.{◌≡◌, ◌≢◌, ℕ, ◌+◌, ◌≤◌, if◌then◌else◌, List, Some, is_some, Contains}
use Rattle.pa_slot.specs.Count.{number_of}
use Rattle.pa_slot.specs.Run.{Mark}
use Rattle.pa_record.specs.declared.history.CellEntry.{CellEntry}
use Rattle.pa_record.specs.declared.history.Held.TheVariants.{Nothing}
use Rattle.pa_rules.specs.declared.played.Played.{Played}
use Rattle.pa_rules.specs.Played.{mark_of}
use Rattle.pa_rules.specs.Cells.{IsExchange}
use Rattle.pa_rules.specs.Order.{StandsBefore}

-- x's exchange gave a handle, and y's is the next exchange of that cell
abbrev pub HandsTo : (ℕ → List CellEntry) → Played → Played → Type 0
HandsTo cells x y =
    (k j : ℕ) × (e f : CellEntry) × IsExchange cells k j e × IsExchange cells k (j + 1) f × (e.line ≡ x.line) × (f.line ≡ y.line)
    × (e.gave ≢ Nothing)

-- The record x is before y: by their thread or their phases, by a handle that went from x to y,
-- or with some record between them.
pub data IsBefore (cells : ℕ → List CellEntry) (ps : List Played) : Played → Played → Type 0 where
  Standing : {x y : Played} → StandsBefore x y → IsBefore cells ps x y
  Handing : {x y : Played} → HandsTo cells x y → IsBefore cells ps x y
  Between : {x z : Played} (y : Played) → Contains ps y → IsBefore cells ps x y → IsBefore cells ps y z → IsBefore cells ps x z

-- the number that a mark leaves: a step adds 1 to the one that it found
abbrev pub left_number : Mark → ℕ
left_number m = number_of m.found + (if is_some m.step then 1 else 0)

-- What was seen.
--   ahead: no record is before itself
--   rising: a record finds no lower number of a slot than one that is before it left
pub record IsSeenInOrder (cells : ℕ → List CellEntry) (ps : List Played) : Type 0 where
  pub ahead : (x : Played) → Contains ps x → IsBefore cells ps x x → ⊥
  pub rising : (x y : Played) (m n : Mark) → Contains ps x → Contains ps y → IsBefore cells ps x y → mark_of x ≡ Some m →
      mark_of y ≡ Some n →
      m.slot ≡ n.slot → left_number m ≤ number_of n.found
