use Rattle.pa_audit_records.specs.ByKeys.{value_at}
use Rattle.pa_audit_records.proofs.Fitting.{RunsSoFar}
use Rattle.pa_audit_records.proofs.slots.runs.Given as goal

abbrev pub invariant-loop-record : goal.invariant-loop-record
invariant-loop-record l = RunsSoFar l.records (value_at l.reached) l.record-index
