use Rattle.pa_delay_runner.proofs.Counting.{IsQueueing}
use Rattle.pa_delay_runner.proofs.report.queued_by.Given as goal

-- the queues before were added up
abbrev pub invariant-loop-queue : goal.invariant-loop-queue
invariant-loop-queue l = IsQueueing l.partition l.queue-index l.queues l.sum
