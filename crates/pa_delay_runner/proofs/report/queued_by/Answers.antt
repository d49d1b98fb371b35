use Rattle.std.proofs.Common.{◌+◌, sym, subst}
use Rattle.pa_delay_runner.proofs.Counting.{IsQueueing, queue_fits, queue_more}
use Rattle.pa_delay_runner.proofs.report.queued_by.Goals as goal

pub and-sum-requires-clause-slots : goal.and-sum-requires-clause-slots
and-sum-requires-clause-slots c =
    (queue_fits c.args.partition c.loop-queue.queue-index c.args.queues.now c.loop-queue.sum c.queued.result _ c.queue-item.result
    c.queue-item.is c.loop-queue-test.true c.queued.ensures.slots c.queued.ensures.bytes c.queued.ensures.small
    (c.requires.queued c.loop-queue.queue-index c.loop-queue-test.true) c.loop-queue.invariant c.requires.many).0

pub and-sum-requires-clause-bytes : goal.and-sum-requires-clause-bytes
and-sum-requires-clause-bytes c =
    (queue_fits c.args.partition c.loop-queue.queue-index c.args.queues.now c.loop-queue.sum c.queued.result _ c.queue-item.result
    c.queue-item.is c.loop-queue-test.true c.queued.ensures.slots c.queued.ensures.bytes c.queued.ensures.small
    (c.requires.queued c.loop-queue.queue-index c.loop-queue-test.true) c.loop-queue.invariant c.requires.many).1

pub loop-queue-preserved : goal.loop-queue-preserved
loop-queue-preserved c =
    subst (IsQueueing c.args.partition (c.loop-queue.queue-index + 1) c.args.queues.now) (sym c.and-sum.ensures)
    (queue_more c.args.partition c.loop-queue.queue-index c.args.queues.now c.loop-queue.sum c.queued.result _ c.queue-item.result
    c.queue-item.is c.loop-queue-test.true c.queued.ensures.slots c.queued.ensures.bytes c.queued.ensures.small
    (c.requires.queued c.loop-queue.queue-index c.loop-queue-test.true) c.loop-queue.invariant)
