use Rattle.std.proofs.Common.{◌≤◌}
use Rattle.pa_delay_runner.proofs.Opening.{AreOpened}
use Rattle.pa_delay_runner.proofs.lines.open_queues.Given as goal

-- the threads before have their queues
abbrev pub invariant-loop-k : goal.invariant-loop-k
invariant-loop-k l = record { low : l.k ≤ l.trace.threads; opened : AreOpened l.bytes l.trace l.k l.queues.items }
