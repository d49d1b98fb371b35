-- What a record reports of a slot, as the checkers have it.
use Rattle.std.specs.Prelude.{ℕ, ◌<◌}
use Rattle.pa_slot.specs.declared.word.SlotName.{SlotName}
use Rattle.pa_slot.specs.Run.{Mark}
use Rattle.pa_audit_records.specs.declared.marks.Marked.{Marked}

-- the mark on a line
abbrev pub mark_with : ℕ → Marked → Mark
mark_with line m = record { line = line; slot = m.slot; found = m.found.0; step = m.step }

-- names and words have the bits of their types
abbrev pub IsSized : SlotName → ℕ → Type 0
IsSized s w = (s.start < 4294967296) × (w < 18446744073709551616)
