use Rattle.std.proofs.Common.{ap, ◌∙◌, arith}
use Rattle.pa_op_specs.specs.Workers.{WorkerValue}
use Rattle.pa_runner.proofs.Passing.{going_more}
use Rattle.pa_runner.proofs.passed.any_stopped.Goals as goal

pub loop-worker-init : goal.loop-worker-init
loop-worker-init g c k low = absurd (omega arith)

pub loop-worker-preserved : goal.loop-worker-preserved
loop-worker-preserved g c =
    going_more c.args.workers.now c.loop-worker.worker-index _ c.stopped.result c.loop-worker.invariant c.loop-worker-test.true
    (c.stopped.ensures ∙ ap (λ (w : WorkerValue). w.stopped) c.worker-item.is) c.if-stopped.false

pub returns : goal.returns
returns g c none k low = let past = c.loop-worker-test.false in c.loop-worker.invariant k (omega arith)
