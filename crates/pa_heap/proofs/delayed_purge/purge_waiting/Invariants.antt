use Rattle.pa_heap.proofs.PurgedWaiting.{Emptying}
use Rattle.pa_heap.proofs.delayed_purge.purge_waiting.Given as goal

-- the queue left, and then this many partitions were purged
abbrev pub invariant-loop-partition : goal.invariant-loop-partition
invariant-loop-partition g l = Emptying l.line l.partition l.fn.queue.slots l.fn.stock l.initial.stock l.stock
