use Rattle.std.proofs.Common.{◌∙◌, sym, ap}
use Rattle.pa_rules.specs.Nexts.{copy_next}
use Rattle.pa_rules.proofs.Nexts.{copy_steps}
use Rattle.pa_op_specs.specs.Stocks.{StockRegister}
use Rattle.pa_op_specs.proofs.Refusing.{copy_refuses}
use Rattle.pa_heap.proofs.copies.copy.Goals as goal

pub returns-in-Err-clause-does : goal.returns-in-Err-clause-does
returns-in-Err-clause-does g c line =
    copy_refuses c.args.stock.now c.args.from c.args.to c.in-Err.refusal c.kept.ensures.stock
    (sym (c.for_copy.ensures ∙ ap (λ (r : StockRegister). copy_next r) c.register.ensures) ∙ c.in-Err.is) line

pub copy_to-requires-clause-handle : goal.copy_to-requires-clause-handle
copy_to-requires-clause-handle g c =
    copy_steps _ c.in-Ok.handle (sym (c.for_copy.ensures ∙ ap (λ (r : StockRegister). copy_next r) c.register.ensures) ∙ c.in-Ok.is)
