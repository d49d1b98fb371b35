use Rattle.std.proofs.Common.{◌∙◌, sym, ap, subst, inr}
use Rattle.std.specs.Prelude.{Some}
use Rattle.pa_slot.proofs.Outcomes.{any_err}
use Rattle.pa_trace.specs.declared.script.Op.TheVariants as ops
use Rattle.pa_record.specs.declared.entry.Answer.{Answer}
use Rattle.pa_record.specs.declared.entry.Answer.TheVariants.{NotOwner, SecondFree}
use Rattle.pa_rules.specs.Nexts.{free_next}
use Rattle.pa_rules.proofs.Nexts.{free_steps, free_looks, by_held}
use Rattle.pa_op_specs.specs.Stocks.{StockRegister}
use Rattle.pa_op_specs.specs.Plays.{DoesOp}
use Rattle.pa_op_specs.proofs.Refusing.{free_refuses}
use Rattle.pa_heap.proofs.Through.{free_looked}
use Rattle.pa_heap.proofs.Playing.{free_released}
use Rattle.pa_heap.proofs.frees.play_free.Goals as goal

pub returns-in-Refused-clause-does : goal.returns-in-Refused-clause-does
returns-in-Refused-clause-does g c =
    free_refuses c.args.stock.now c.args.reg c.in-Refused.refusal c.kept.ensures.stock
    (sym (c.for_free.ensures ∙ ap (λ (r : StockRegister). free_next r) c.register.ensures) ∙ c.in-Refused.is) c.args.line

pub free-requires-clause-handle : goal.free-requires-clause-handle
free-requires-clause-handle g c =
    free_steps _ c.in-Step.handle (sym (c.for_free.ensures ∙ ap (λ (r : StockRegister). free_next r) c.register.ensures) ∙ c.in-Step.is)

pub returns-in_ok-seen-in-Step-clause-does : goal.returns-in_ok-seen-in-Step-clause-does
returns-in_ok-seen-in-Step-clause-does g c =
    free_released c.counted_steps_leave.ensures c.owns_change.ensures c.states_are_owns.ensures c.slots_stay_seen.ensures c.args.line
    c.args.stock.now c.free.new.self c.args.reg
    c.in-Step.handle c.in_ok-seen-in-Step.seen c.kept.ensures.stock c.kept.ensures.aware c.requires.stake c.requires.budget c.requires.reg
    (free_steps _ c.in-Step.handle (sym (c.for_free.ensures ∙ ap (λ (r : StockRegister). free_next r) c.register.ensures) ∙ c.in-Step.is))
    c.in_ok-seen-in-Step.ensures.releases c.kept-in-Step.ensures.stock

pub look-seen-requires-clause-handle : goal.look-seen-requires-clause-handle
look-seen-requires-clause-handle g c =
    inr (free_looks _ c.in-Look.handle (sym (c.for_free.ensures ∙ ap (λ (r : StockRegister). free_next r)
    c.register.ensures) ∙ c.in-Look.is))

pub returns-in-Look-clause-does : goal.returns-in-Look-clause-does
returns-in-Look-clause-does g c =
    subst (λ (a : Answer). DoesOp c.args.line (ops.Free c.args.reg) a c.args.stock.now c.look-seen.new.self) (sym c.looked_free.ensures)
    (free_looked c.looks_leave.ensures c.args.stock.now c.look-seen.new.self c.args.reg c.in-Look.handle c.look-seen.result _
    c.kept.ensures.stock c.kept.ensures.aware c.requires.stake c.requires.reg
    (free_looks _ c.in-Look.handle (sym (c.for_free.ensures ∙ ap (λ (r : StockRegister). free_next r) c.register.ensures) ∙ c.in-Look.is))
    c.look-seen.ensures (by_held c.look-seen.result.found.0 (NotOwner c.look-seen.result) (SecondFree (Some c.look-seen.result)))
    c.args.line)

pub returns-in_err-seen-in-Step-clause-left : goal.returns-in_err-seen-in-Step-clause-left
returns-in_err-seen-in-Step-clause-left g c =
    any_err c.from_residual.result _ (
      c.in-Step.handle,
      free_steps _ c.in-Step.handle (sym (c.for_free.ensures ∙ ap (λ (r : StockRegister). free_next r) c.register.ensures) ∙ c.in-Step.is),
      c.in_err-seen-in-Step.ensures.stops,
    )
