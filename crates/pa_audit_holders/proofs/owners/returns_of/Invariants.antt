use Rattle.pa_audit_records.specs.ByKeys.{value_at}
use Rattle.pa_audit_holders.specs.Owners.{HasReturnsTo}
use Rattle.pa_audit_holders.proofs.owners.returns_of.Given as goal

abbrev pub invariant-loop-record : goal.invariant-loop-record
invariant-loop-record l = HasReturnsTo l.records l.record-index (value_at l.firsts)
