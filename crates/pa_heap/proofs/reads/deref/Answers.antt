use Rattle.std.proofs.Common.{◌∙◌, sym, ap}
use Rattle.pa_rules.specs.Nexts.{read_next}
use Rattle.pa_rules.proofs.Nexts.{read_looks}
use Rattle.pa_op_specs.specs.Stocks.{StockRegister}
use Rattle.pa_op_specs.proofs.Refusing.{read_refuses}
use Rattle.pa_heap.proofs.reads.deref.Goals as goal

pub returns-in-Err-clause-does : goal.returns-in-Err-clause-does
returns-in-Err-clause-does g c line =
    read_refuses c.args.stock.now c.args.reg c.args.place c.in-Err.refusal c.kept.ensures.stock
    (sym (c.for_read.ensures ∙ ap (λ (r : StockRegister). read_next r) c.register.ensures) ∙ c.in-Err.is) line

pub read_from-requires-clause-handle : goal.read_from-requires-clause-handle
read_from-requires-clause-handle g c =
    read_looks _ c.in-Ok.handle (sym (c.for_read.ensures ∙ ap (λ (r : StockRegister). read_next r) c.register.ensures) ∙ c.in-Ok.is)
