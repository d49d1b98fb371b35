use Rattle.std.proofs.Common.{◌≡◌, drop, length, take}
use Rattle.pa_runner.specs.Phases.{worker_in}
use Rattle.pa_delay_runner.specs.Counted.{AreRecounted}
use Rattle.pa_delay_runner.specs.Played.{slots_in}
use Rattle.pa_delay_runner.proofs.report.recount.Given as goal

-- the lines before say what is cached
abbrev pub invariant-loop-at : goal.invariant-loop-at
invariant-loop-at g l = record {
  long : length l.lines ≡ length l.fn.lines;
  done : AreRecounted (length l.workers) (worker_in l.workers) (slots_in l.queues) (take l.at l.fn.lines) (take l.at l.lines);
  rest : drop l.at l.lines ≡ drop l.at l.fn.lines;
}
