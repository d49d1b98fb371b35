use Rattle.std.proofs.Common.{◌≡◌, None, replicate}
use Rattle.pa_cells.proofs.cells.nothing_parked.Given as goal

abbrev pub invariant-loop : goal.invariant-loop
invariant-loop l = l.parked.items ≡ replicate l.counter None
