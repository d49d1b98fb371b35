use Rattle.std.proofs.Common.{length}
use Rattle.pa_heap.proofs.Queued.{Evicting}
use Rattle.pa_heap.proofs.queues.evict_all.Given as goal

-- some slots left
abbrev pub invariant-loop-front : goal.invariant-loop-front
invariant-loop-front g l = Evicting l.line l.initial.stock l.initial.queue l.stock l.queue

abbrev pub decreases-loop-front : goal.decreases-loop-front
decreases-loop-front g l = length l.queue.slots
