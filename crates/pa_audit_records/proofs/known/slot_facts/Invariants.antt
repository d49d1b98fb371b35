use Rattle.std.proofs.Common.{◌≤◌, drop, length}
use Rattle.pa_audit_records.specs.ByKeys.{value_at}
use Rattle.pa_audit_records.specs.Tables.{AreSlotFacts}
use Rattle.pa_audit_records.proofs.known.slot_facts.Given as goal

abbrev pub decreases-loop-at : goal.decreases-loop-at
decreases-loop-at l = l.at

abbrev pub invariant-loop-at : goal.invariant-loop-at
invariant-loop-at l = record { below : l.at ≤ length l.records; facts : AreSlotFacts (drop l.at l.records) (value_at l.slots) }
