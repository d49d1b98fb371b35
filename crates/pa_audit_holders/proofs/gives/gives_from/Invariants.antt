use Rattle.std.proofs.Common.{◌-◌, length, map}
use Rattle.pa_audit_holders.specs.Lines.{did_at}
use Rattle.pa_audit_holders.proofs.Giving.{IsStripped}
use Rattle.pa_audit_holders.proofs.gives.gives_from.Given as goal

abbrev pub invariant-batches : goal.invariant-batches
invariant-batches l = IsStripped (map (did_at l.journal) l.places) l.at l.slots l.from l.next

abbrev pub decreases-batches : goal.decreases-batches
decreases-batches l = length l.slots - l.from
