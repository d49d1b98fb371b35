use Rattle.std.proofs.Common.{subst, inr}
use Rattle.pa_slot.proofs.Outcomes.{on_ok}
use Rattle.pa_op_specs.specs.Stocks.{StockValue}
use Rattle.pa_thread_state.specs.Homing.{IsSettled}
use Rattle.pa_thread_state.proofs.stock.Stock.bring_back.Goals as goal

pub returns-else-listed-clause-back : goal.returns-else-listed-clause-back
returns-else-listed-clause-back g c =
    let untouched = c.if-listed.ensures.is in
    on_ok c.settle.result _ _
    (λ settled. inr (
      untouched.1,
      subst (λ (s : StockValue). IsSettled c.args.line c.args.handle.now s c.settle.new.self) untouched.0 settled,
    ))
    c.settle.ensures.settled
