-- The words of the slots, as the records lead to them one after another.
use Rattle.std.specs.Prelude.{◌≡◌, ℕ, if◌then◌else◌, nat_lt, Option, Some, None}
use Rattle.std.specs.Option.{unwrap_or}
use Rattle.pa_slot.specs.declared.word.SlotName.{SlotName}
use Rattle.pa_slot.specs.declared.word.Step.{Step}
use Rattle.pa_slot.specs.Count.{CanStep, stepped}
use Rattle.pa_audit_records.specs.Keys.{name_key}

-- the word of a slot in a table by the slots' numbers, and 0 if none is there
abbrev pub word_by : (ℕ → Option ℕ) → SlotName → ℕ
word_by at s = if nat_lt s.start 4294967296 then unwrap_or (at (name_key s)) 0 else 0

-- The word of slot s is w. The step, if one is made, is enabled there and leads to the slot's next word,
-- and the other slots keep their words.
abbrev pub LeadsOn : (SlotName → ℕ) → (SlotName → ℕ) → SlotName → ℕ → Option Step → Type 0
LeadsOn before after s w None = (w ≡ before s) × ((t : SlotName) → after t ≡ before t)
LeadsOn before after s w (Some p) =
    (w ≡ before s) × CanStep p w × (after s ≡ stepped p w) × ((t : SlotName) → (t ≡ s → ⊥) → after t ≡ before t)
