use Rattle.std.proofs.Common.{length, sym, subst}
use Rattle.pa_runner.specs.Phases.{worker_in}
use Rattle.pa_delay_runner.specs.Counted.{IsQueuedBy}
use Rattle.pa_delay_runner.specs.Course.{IsCachedWith}
use Rattle.pa_delay_runner.specs.Played.{slots_in}
use Rattle.pa_delay_runner.proofs.Counting.{cached_with}
use Rattle.pa_delay_runner.proofs.report.cached_with.Goals as goal

pub returns : goal.returns
returns g c =
    let p = c.args.partition in
    let threads = length c.args.workers.now in
    let workers = worker_in c.args.workers.now in
    let queues = slots_in c.args.queues.now in
    subst (IsCachedWith p threads workers queues) (sym c.and.ensures)
    (cached_with p threads workers queues c.cached_by-lists.result c.queued_by-waiting.result c.cached_by-lists.ensures.cached
    (subst (λ n. IsQueuedBy p n queues c.queued_by-waiting.result) c.requires.many.1 c.queued_by-waiting.ensures.queued))
