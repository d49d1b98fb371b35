use Rattle.pa_audit_records.specs.ByKeys.{value_at}
use Rattle.pa_audit_holders.proofs.Moving.{AreMoved}
use Rattle.pa_audit_holders.proofs.moves.move_slots.Given as goal

abbrev pub invariant-loop-slot : goal.invariant-loop-slot
invariant-loop-slot l = AreMoved l.records l.mover.line l.course l.slots (value_at l.fn.owners) (value_at l.owners) l.slot-index l.all
