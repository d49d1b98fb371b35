use Rattle.std.proofs.Common.{◌≡◌, ◌+◌, ◌≤◌, length}
use Rattle.pa_delay_runner.specs.Going.{HasPlayedUpTo}
use Rattle.pa_delay_runner.proofs.lines.play_lines.Given as goal

-- the head's turn and those of the lines before are over
abbrev pub invariant-loop-line : goal.invariant-loop-line
invariant-loop-line g l = record {
  region : l.seat.region ≡ l.fn.seat.region;
  number_is : l.number ≡ l.line-index + 2;
  small : l.phase ≤ l.line-index + 1;
  low : l.line-index ≤ length l.trace.lines;
  going : HasPlayedUpTo l.bytes l.trace l.line-index l.phase l.workers l.queues.items l.seat.view l.report.items;
}
