use Rattle.std.proofs.Common.{◌-◌}
use Rattle.pa_audit_records.specs.ByKeys.{value_at}
use Rattle.pa_slot.specs.Count.{number_of}
use Rattle.pa_audit_records.proofs.Stepping.{IsReaching}
use Rattle.pa_audit_records.proofs.steps.reach.Given as goal

abbrev pub invariant-loop-next : goal.invariant-loop-next
invariant-loop-next l = IsReaching l.records (value_at l.fn.reached) (value_at l.reached) l.slot l.word.0

abbrev pub decreases-loop-next : goal.decreases-loop-next
decreases-loop-next l = 1099511627776 - number_of l.word.0
