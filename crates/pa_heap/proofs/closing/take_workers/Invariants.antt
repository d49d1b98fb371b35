use Rattle.std.proofs.Common.{◌≡◌, All}
use Rattle.pa_heap.specs.Closing.{TakesOthersIn, LeavesWorker}
use Rattle.pa_heap.proofs.closing.take_workers.Given as goal

-- the seat is of the region, and has what it had and what the workers so far had
abbrev pub invariant-loop-worker : goal.invariant-loop-worker
invariant-loop-worker g l =
    (l.seat.region ≡ l.fn.region) × TakesOthersIn l.initial.seat.view l.seat.view × All (LeavesWorker l.seat.view) l.yielded
