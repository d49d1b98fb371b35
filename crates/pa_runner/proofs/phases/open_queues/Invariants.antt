use Rattle.std.proofs.Common.{◌≡◌, [], replicate}
use Rattle.pa_runner.proofs.phases.open_queues.Given as goal

abbrev pub invariant-loop : goal.invariant-loop
invariant-loop l = l.queues.items ≡ replicate l.counter []
