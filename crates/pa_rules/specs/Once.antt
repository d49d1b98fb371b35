-- How often one slot is another: 0 or 1.
use Rattle.std.specs.Prelude.{ℕ, cond}
use Rattle.pa_slot.specs.declared.word.SlotName.{SlotName}
use Rattle.pa_slot.specs.Run.{same_slot}

-- 1 if the two are one slot, and else 0
abbrev pub once : SlotName → SlotName → ℕ
once s t = cond (same_slot s t) 1 0
