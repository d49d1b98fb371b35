use Rattle.pa_rules.specs.Cells.{history_at}
use Rattle.pa_audit_order.specs.Steps.{AreGivers}
use Rattle.pa_audit_order.proofs.hands.givers_of.Given as goal

abbrev pub invariant-loop-record : goal.invariant-loop-record
invariant-loop-record l = AreGivers (history_at l.cells) l.records l.givers.items l.record-index
