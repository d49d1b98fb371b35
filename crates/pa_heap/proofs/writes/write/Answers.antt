use Rattle.std.proofs.Common.{◌∙◌, sym, ap, subst, inr}
use Rattle.std.specs.Prelude.{Some}
use Rattle.pa_trace.specs.declared.script.Op.TheVariants as ops
use Rattle.pa_record.specs.declared.entry.Answer.{Answer}
use Rattle.pa_record.specs.declared.entry.Answer.TheVariants.{NotOwner, StaleUse}
use Rattle.pa_rules.specs.Nexts.{write_next}
use Rattle.pa_rules.proofs.Nexts.{write_steps, write_looks, by_held}
use Rattle.pa_op_specs.specs.Stocks.{StockRegister}
use Rattle.pa_op_specs.specs.Plays.{DoesOp}
use Rattle.pa_op_specs.proofs.Refusing.{write_refuses}
use Rattle.pa_heap.proofs.Through.{write_looked}
use Rattle.pa_heap.proofs.writes.write.Goals as goal

pub returns-in-Refused-clause-does : goal.returns-in-Refused-clause-does
returns-in-Refused-clause-does g c line =
    write_refuses c.args.stock.now c.args.reg c.args.value c.in-Refused.refusal c.kept.ensures.stock
    (sym (c.for_write.ensures ∙ ap (λ (r : StockRegister). write_next r) c.register.ensures) ∙ c.in-Refused.is) line

pub write_owned-requires-clause-handle : goal.write_owned-requires-clause-handle
write_owned-requires-clause-handle g c =
    write_steps _ c.in-Step.handle (sym (c.for_write.ensures ∙ ap (λ (r : StockRegister). write_next r) c.register.ensures) ∙ c.in-Step.is)

pub look-seen-requires-clause-handle : goal.look-seen-requires-clause-handle
look-seen-requires-clause-handle g c =
    inr (write_looks _ c.in-Look.handle (sym (c.for_write.ensures ∙ ap (λ (r : StockRegister). write_next r)
    c.register.ensures) ∙ c.in-Look.is))

pub returns-in-Look-clause-does : goal.returns-in-Look-clause-does
returns-in-Look-clause-does g c line =
    subst (λ (a : Answer). DoesOp line (ops.Write c.args.reg c.args.value) a c.args.stock.now c.look-seen.new.self)
    (sym c.looked_write.ensures)
    (write_looked c.looks_leave.ensures c.args.stock.now c.look-seen.new.self c.args.reg c.args.value c.in-Look.handle
    c.look-seen.result _ c.kept.ensures.stock c.kept.ensures.aware c.requires.stake c.requires.reg
    (write_looks _ c.in-Look.handle (sym (c.for_write.ensures ∙ ap (λ (r : StockRegister). write_next r)
    c.register.ensures) ∙ c.in-Look.is))
    c.look-seen.ensures (by_held c.look-seen.result.found.0 (NotOwner c.look-seen.result) (StaleUse (Some c.look-seen.result))) line)
