use Rattle.std.proofs.Common.{◌≡◌, ◌≤◌}
use Rattle.pa_runner.proofs.Opened.{IsOpening}
use Rattle.pa_runner.proofs.opening.open_workers.Given as goal

-- the workers of the threads before were opened
abbrev pub invariant-loop-k : goal.invariant-loop-k
invariant-loop-k g l = record {
  region : l.seat.region ≡ l.fn.seat.region;
  low : l.k ≤ l.trace.threads;
  opening : IsOpening l.trace l.k l.workers.items l.fn.seat.view l.seat.view;
}
