use Rattle.std.proofs.Common.{get_or}
use Rattle.pa_runner.proofs.Summed.{worker_at, count_at, add_more}
use Rattle.pa_runner.proofs.report.counted_by.Goals as goal

pub loop-worker-preserved : goal.loop-worker-preserved
loop-worker-preserved g c =
    let p = c.args.partition in
    let ws = c.args.workers.now in
    let i = c.loop-worker.worker-index in
    let below = c.loop-worker-test.true in
    add_more p i ws c.loop-worker.sum (get_or c.counts-counts.result p _)
    (count_at ws i p _ c.worker-item.result c.counts-counts.result _ c.worker-item.is below c.kept.ensures.worker c.counts-counts.ensures
    c.requires.partition)
    (worker_at ws i _ c.worker-item.result c.worker-item.is below c.kept.ensures.worker).counts
    (c.requires.few i below) c.loop-worker.invariant c.both-sum.result
    c.both-sum.ensures.issued c.both-sum.ensures.freed c.both-sum.ensures.entered c.both-sum.ensures.left
