use Rattle.std.proofs.Common.{◌≡◌, ◌+◌, ◌≤◌}
use Rattle.pa_runner.specs.UnderWay.{IsUnderWay}
use Rattle.pa_runner.proofs.phases.Playing.play_phases.Given as goal

-- the phases before are over, and the lines before of this phase are in the queues
abbrev pub invariant-loop-line : goal.invariant-loop-line
invariant-loop-line g l = record {
  region : l.seat.region ≡ l.fn.seat.region;
  number_is : l.number ≡ l.line-index + 2;
  small : l.phase ≤ l.line-index + 1;
  going : IsUnderWay l.self.trace.now l.line-index l.phase l.workers l.queues.items l.seat.view l.report.items;
}
