use Rattle.std.proofs.Common.{◌≡◌}
use Rattle.pa_audit_records.specs.ByKeys.{value_at}
use Rattle.pa_audit_order.specs.Steps.{ArePrevious}
use Rattle.pa_audit_order.proofs.Handing.{AreLast}
use Rattle.pa_audit_order.proofs.hands.previous_of.Given as goal

abbrev pub invariant-loop-record : goal.invariant-loop-record
invariant-loop-record l = record {
  at : l.at ≡ l.record-index;
  last : AreLast l.records (value_at l.last) l.record-index;
  previous : ArePrevious l.records l.previous.items l.record-index;
}
