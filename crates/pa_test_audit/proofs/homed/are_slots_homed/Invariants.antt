use Rattle.std.proofs.Common.{◌≡◌, Some, take}
use Rattle.std.specs.Prelude.{Contains}
use Rattle.pa_audit_records.specs.ByKeys.{value_at}
use Rattle.pa_slot.specs.declared.word.SlotName.{SlotName}
use Rattle.pa_record.specs.Root.{names}
use Rattle.pa_audit_records.specs.Keys.{name_key}
use Rattle.pa_test_audit.proofs.homed.are_slots_homed.Given as goal

abbrev pub invariant-loop-slot : goal.invariant-loop-slot
invariant-loop-slot l = (s : SlotName) → Contains (names (take l.slot-index l.slots)) s → value_at l.homes (name_key s) ≡ Some l.home
