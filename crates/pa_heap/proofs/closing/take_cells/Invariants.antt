use Rattle.std.proofs.Common.{◌≡◌}
use Rattle.pa_heap.specs.Closing.{TakesOthersIn}
use Rattle.pa_heap.proofs.closing.take_cells.Given as goal

-- the seat is of the region, and has what it had
abbrev pub invariant-loop-waiting : goal.invariant-loop-waiting
invariant-loop-waiting g l = (l.seat.region ≡ l.fn.region) × TakesOthersIn l.initial.seat.view l.seat.view
