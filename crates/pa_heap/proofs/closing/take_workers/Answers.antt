use Rattle.std.proofs.Common.{◌∙◌}
use Rattle.std.proofs.lemmas.List.Elements.{All-push, All-weaker}
use Rattle.pa_heap.specs.Closing.{LeavesWorker}
use Rattle.pa_heap.proofs.TakingIn.{takes_on, worker_on}
use Rattle.pa_heap.proofs.closing.take_workers.Goals as goal

pub loop-worker-preserved : goal.loop-worker-preserved
loop-worker-preserved g c = (
  c.take_worker.ensures.region ∙ c.loop-worker.invariant.0,
  takes_on c.args.seat.now.view c.loop-worker.seat.view c.take_worker.new.seat.view c.loop-worker.invariant.1 c.take_worker.ensures.takes,
  All-push (LeavesWorker c.take_worker.new.seat.view) c.loop-worker.yielded c.in-Some.worker
      (All-weaker (LeavesWorker c.loop-worker.seat.view) (LeavesWorker c.take_worker.new.seat.view)
      (λ w there. worker_on c.loop-worker.seat.view c.take_worker.new.seat.view there c.take_worker.ensures.takes.within)
      c.loop-worker.yielded c.loop-worker.invariant.2)
      c.take_worker.ensures.leaves,
)
