use Rattle.std.proofs.Common.{◌≡◌, ◌≤◌, length}
use Rattle.pa_runner.proofs.Gathered.{IsHearing}
use Rattle.pa_runner.proofs.phase.hear_all.Given as goal

abbrev pub invariant-loop-k : goal.invariant-loop-k
invariant-loop-k g l = record {
  region : l.seat.region ≡ l.fn.seat.region;
  few : l.k ≤ length l.fn.workers;
  hearing : IsHearing l.k l.fn.workers l.workers l.fn.seat.view l.seat.view;
}
