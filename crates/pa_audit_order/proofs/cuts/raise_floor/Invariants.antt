use Rattle.std.proofs.Common.{◌-◌, length}
use Rattle.pa_audit_order.specs.Steps.{Adds}
use Rattle.pa_audit_order.proofs.cuts.raise_floor.Given as goal

abbrev pub invariant-loop-floor : goal.invariant-loop-floor
invariant-loop-floor l = Adds l.records l.phase l.fn.stack.items l.fn.floor l.stack.items l.floor

abbrev pub decreases-loop-floor : goal.decreases-loop-floor
decreases-loop-floor l = length l.records - l.floor
