use Rattle.pa_audit_records.specs.Along.{word_by}
use Rattle.pa_audit_records.specs.ByKeys.{value_at}
use Rattle.pa_audit_records.proofs.Going.{RunsTo}
use Rattle.pa_audit_records.proofs.along.stand_in_order.Given as goal

abbrev pub invariant-loop-record : goal.invariant-loop-record
invariant-loop-record l = RunsTo l.records l.record-index (word_by (value_at l.words))
