use Rattle.std.proofs.Common.{◌≡◌}
use Rattle.pa_rules.specs.Cells.{history_at}
use Rattle.pa_audit_records.proofs.Walking.{RegsSoFar}
use Rattle.pa_audit_records.proofs.walk.registers_meet.Given as goal

abbrev pub invariant-loop-record : goal.invariant-loop-record
invariant-loop-record l =
    record { walk : RegsSoFar l.version (history_at l.cells) l.records l.registers l.record-index; at : l.at ≡ l.record-index }
