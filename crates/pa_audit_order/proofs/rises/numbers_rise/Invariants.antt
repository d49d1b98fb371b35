use Rattle.pa_audit_records.specs.ByKeys.{value_at}
use Rattle.pa_audit_order.proofs.Climbing.{RisesSoFar}
use Rattle.pa_audit_order.proofs.rises.numbers_rise.Given as goal

abbrev pub invariant-loop-record : goal.invariant-loop-record
invariant-loop-record l = RisesSoFar l.records (value_at l.left) l.record-index
