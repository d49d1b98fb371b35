use Rattle.std.proofs.Common.{◌+◌, ◌-◌}
use Rattle.pa_audit_holders.proofs.Clearing.{AreEmptied}
use Rattle.pa_audit_holders.proofs.lists.clear_from.Given as goal

abbrev pub invariant-lists : goal.invariant-lists
invariant-lists l = AreEmptied l.initial.lists.items l.lists.items l.first l.count l.at l.rest

abbrev pub decreases-lists : goal.decreases-lists
decreases-lists l = l.first + l.count - l.at
