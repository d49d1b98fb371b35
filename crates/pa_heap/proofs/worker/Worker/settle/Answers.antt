use Rattle.std.proofs.Common.{List, ◌∙◌, ap}
use Rattle.pa_totals.specs.declared.owed.Owed.{Owed}
use Rattle.pa_totals.specs.Settled.{after_settle_all}
use Rattle.pa_op_specs.specs.Stocks.{StockValue}
use Rattle.pa_op_specs.specs.Workers.{WorkerValue}
use Rattle.pa_op_specs.specs.Settling.{settled_worker}
use Rattle.pa_heap.specs.Accounts.{worker_of}
use Rattle.pa_heap.proofs.worker.Worker.settle.Goals as goal

pub returns-clause-settled : goal.returns-clause-settled
returns-clause-settled g c =
    let w : WorkerValue = worker_of c.self.inside.stock c.self.inside.account in
    ap (λ (s : StockValue). record w { stock = s; owed = c.settle_totals.new.owed }) c.settle_totals.ensures.view
    ∙ (ap (λ (os : List Owed). record w { stock = record w.stock { view = after_settle_all w.owed w.stock.view }; owed = os })
    c.settle_totals.ensures.settled
    ∙ ap (λ (z : WorkerValue). settled_worker z) c.self.view_is)
