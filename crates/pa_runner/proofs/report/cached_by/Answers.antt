use Rattle.std.proofs.Common.{◌+◌, length, sym, ◌∙◌, ap, subst, arith}
use Rattle.pa_rules.specs.Caches.{listed_slots}
use Rattle.pa_rules.specs.Report.{listed_bytes}
use Rattle.pa_op_specs.specs.Stocks.{listed_in}
use Rattle.pa_op_specs.specs.Workers.{WorkerValue}
use Rattle.pa_runner.proofs.Summed.{IsCaching, item_in, worker_at, cache_fits, cache_more}
use Rattle.pa_runner.proofs.report.cached_by.Goals as goal

pub and-sum-requires-clause-slots : goal.and-sum-requires-clause-slots
and-sum-requires-clause-slots g c =
    let p = c.args.partition in
    let ws = c.args.workers.now in
    let i = c.loop-worker.worker-index in
    let below = c.loop-worker-test.true in
    let many = c.requires.many in
    let same = item_in ws i _ c.worker-item.result c.worker-item.is below in
    (cache_fits p i ws c.loop-worker.sum c.cached.result
    (worker_at ws i _ c.worker-item.result c.worker-item.is below c.kept.ensures.worker).stock
    (c.cached.ensures.slots ∙ ap (λ (w : WorkerValue). listed_slots (listed_in w.stock p) 0 170) same)
    (c.cached.ensures.bytes ∙ ap (λ (w : WorkerValue). listed_bytes (λ class. length (listed_in w.stock p class)) 0 170) same)
    c.loop-worker.invariant (omega arith)).0

pub and-sum-requires-clause-bytes : goal.and-sum-requires-clause-bytes
and-sum-requires-clause-bytes g c =
    let p = c.args.partition in
    let ws = c.args.workers.now in
    let i = c.loop-worker.worker-index in
    let below = c.loop-worker-test.true in
    let many = c.requires.many in
    let same = item_in ws i _ c.worker-item.result c.worker-item.is below in
    (cache_fits p i ws c.loop-worker.sum c.cached.result
    (worker_at ws i _ c.worker-item.result c.worker-item.is below c.kept.ensures.worker).stock
    (c.cached.ensures.slots ∙ ap (λ (w : WorkerValue). listed_slots (listed_in w.stock p) 0 170) same)
    (c.cached.ensures.bytes ∙ ap (λ (w : WorkerValue). listed_bytes (λ class. length (listed_in w.stock p class)) 0 170) same)
    c.loop-worker.invariant (omega arith)).1

pub loop-worker-preserved : goal.loop-worker-preserved
loop-worker-preserved g c =
    let p = c.args.partition in
    let ws = c.args.workers.now in
    let i = c.loop-worker.worker-index in
    let below = c.loop-worker-test.true in
    let same = item_in ws i _ c.worker-item.result c.worker-item.is below in
    subst (IsCaching p (i + 1) ws) (sym c.and-sum.ensures)
    (cache_more p i ws c.loop-worker.sum c.cached.result
    (worker_at ws i _ c.worker-item.result c.worker-item.is below c.kept.ensures.worker).stock
    (c.cached.ensures.slots ∙ ap (λ (w : WorkerValue). listed_slots (listed_in w.stock p) 0 170) same)
    (c.cached.ensures.bytes ∙ ap (λ (w : WorkerValue). listed_bytes (λ class. length (listed_in w.stock p class)) 0 170) same)
    c.loop-worker.invariant)
