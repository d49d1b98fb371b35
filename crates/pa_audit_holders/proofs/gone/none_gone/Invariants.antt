use Rattle.pa_audit_records.specs.ByKeys.{value_at}
use Rattle.pa_audit_holders.proofs.Going.{NoneSoFar}
use Rattle.pa_audit_holders.proofs.gone.none_gone.Given as goal

abbrev pub invariant-loop-slot : goal.invariant-loop-slot
invariant-loop-slot l = NoneSoFar (value_at l.gone) l.slots l.slot-index
