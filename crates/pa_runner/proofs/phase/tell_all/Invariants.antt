use Rattle.std.proofs.Common.{◌≡◌, ◌≤◌, length}
use Rattle.pa_runner.proofs.Gathered.{IsTelling}
use Rattle.pa_runner.proofs.phase.tell_all.Given as goal

abbrev pub invariant-loop-k : goal.invariant-loop-k
invariant-loop-k g l = record {
  region : l.seat.region ≡ l.fn.seat.region;
  few : l.k ≤ length l.fn.workers;
  telling : IsTelling l.k l.fn.workers l.workers l.fn.seat.view l.seat.view;
}
