use Rattle.std.proofs.Common.{◌∙◌, sym, ap}
use Rattle.pa_slot.proofs.Outcomes.{any_err}
use Rattle.pa_rules.specs.Nexts.{reset_next}
use Rattle.pa_rules.proofs.Nexts.{reset_steps}
use Rattle.pa_op_specs.specs.Stocks.{StockRegister}
use Rattle.pa_op_specs.proofs.Refusing.{reset_refuses}
use Rattle.pa_heap.proofs.Playing.{reset_released}
use Rattle.pa_heap.proofs.resets.play_reset.Goals as goal

pub returns-in-Err-clause-does : goal.returns-in-Err-clause-does
returns-in-Err-clause-does g c =
    reset_refuses c.args.stock.now c.args.reg c.in-Err.refusal c.kept.ensures.stock
    (sym (c.for_reset.ensures ∙ ap (λ (r : StockRegister). reset_next r) c.register.ensures) ∙ c.in-Err.is) c.args.line

pub reset-requires-clause-handle : goal.reset-requires-clause-handle
reset-requires-clause-handle g c =
    reset_steps _ c.in-Ok.handle (sym (c.for_reset.ensures ∙ ap (λ (r : StockRegister). reset_next r) c.register.ensures) ∙ c.in-Ok.is)

pub returns-in_ok-seen-in-Ok-clause-does : goal.returns-in_ok-seen-in-Ok-clause-does
returns-in_ok-seen-in-Ok-clause-does g c =
    reset_released c.counted_steps_leave.ensures c.slots_stay_seen.ensures c.args.line c.args.stock.now c.reset.new.self c.args.reg
    c.in-Ok.handle c.in_ok-seen-in-Ok.seen c.kept.ensures.stock c.kept.ensures.aware c.requires.stake c.requires.budget c.requires.reg
    (reset_steps _ c.in-Ok.handle (sym (c.for_reset.ensures ∙ ap (λ (r : StockRegister). reset_next r) c.register.ensures) ∙ c.in-Ok.is))
    c.in_ok-seen-in-Ok.ensures.releases c.kept-in-Ok.ensures.stock

pub returns-in_err-seen-in-Ok-clause-left : goal.returns-in_err-seen-in-Ok-clause-left
returns-in_err-seen-in-Ok-clause-left g c =
    any_err c.from_residual.result _ (
      c.in-Ok.handle,
      reset_steps _ c.in-Ok.handle (sym (c.for_reset.ensures ∙ ap (λ (r : StockRegister). reset_next r) c.register.ensures) ∙ c.in-Ok.is),
      c.in_err-seen-in-Ok.ensures.stops,
    )
