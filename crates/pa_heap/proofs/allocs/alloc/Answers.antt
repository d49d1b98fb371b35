use Rattle.std.proofs.Common.{subst}
use Rattle.std.specs.Prelude.{IsTrue}
use Rattle.pa_rules.specs.Nexts.{HasSomeHandle}
use Rattle.pa_op_specs.specs.Stocks.{StockRegister}
use Rattle.pa_op_specs.proofs.Registers.{bare_register}
use Rattle.pa_heap.proofs.Fulling.{alloc_fills}
use Rattle.pa_heap.proofs.allocs.alloc.Goals as goal

pub returns-then-filled-clause-does : goal.returns-then-filled-clause-does
returns-then-filled-clause-does g c =
    alloc_fills c.args.stock.now c.args.reg c.args.partition c.args.size c.kept.ensures.stock
    (subst (λ (r : StockRegister). HasSomeHandle r) c.register.ensures (c.has_handle-filled.ensures.0 c.if-filled.true)) c.args.line

pub request-requires-clause-none : goal.request-requires-clause-none
request-requires-clause-none g c =
    bare_register _ c.has_handle-filled.result c.if-filled.false
    (subst (λ (r : StockRegister). HasSomeHandle r → IsTrue c.has_handle-filled.result) c.register.ensures c.has_handle-filled.ensures.1)
