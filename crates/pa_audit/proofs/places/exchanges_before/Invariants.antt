use Rattle.std.proofs.Common.{◌≡◌, length, sum_by, take}
use Rattle.pa_audit.proofs.places.exchanges_before.Given as goal

abbrev pub invariant-loop-at : goal.invariant-loop-at
invariant-loop-at l = l.count ≡ sum_by length (take l.at l.cells)
