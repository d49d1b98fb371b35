use Rattle.std.proofs.Common.{◌≡◌, [], length, replicate, take}
use Rattle.pa_runner.proofs.phases.clear_queues.Given as goal

-- the first queues were emptied
abbrev pub invariant-loop-k : goal.invariant-loop-k
invariant-loop-k l = record {
  count : length l.queues ≡ length l.fn.queues;
  none : take l.k l.queues ≡ replicate l.k [];
}
