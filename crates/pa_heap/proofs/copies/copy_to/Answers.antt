use Rattle.std.proofs.Common.{sym, ◌∙◌, ap, subst}
use Rattle.std.specs.Prelude.{IsTrue}
use Rattle.pa_rules.specs.Nexts.{HasSomeHandle, is_owner}
use Rattle.pa_op_specs.specs.Stocks.{StockRegister}
use Rattle.pa_op_specs.proofs.Refusing.{copy_uncounted}
use Rattle.pa_op_specs.proofs.Registers.{bare_register}
use Rattle.pa_heap.proofs.Copying.{copy_fills, other_counts, owner_has, point_does}
use Rattle.pa_heap.proofs.copies.copy_to.Goals.{else-owner-via-then-owner+else-plain, else-owner-via-else-owner}
use Rattle.pa_heap.proofs.copies.copy_to.Goals as goal

pub returns-then-filled-clause-does : goal.returns-then-filled-clause-does
returns-then-filled-clause-does g c line =
    copy_fills c.args.stock.now c.args.from c.args.to c.args.handle c.kept.ensures.stock c.requires.handle
    (subst (λ (r : StockRegister). HasSomeHandle r) c.register.ensures (c.has_handle-filled.ensures.0 c.if-filled.true)) line

pub returns-then-plain-clause-does : goal.returns-then-plain-clause-does
returns-then-plain-clause-does g c line =
    copy_uncounted c.args.stock.now c.args.from c.args.to c.args.handle c.kept.ensures.stock c.kept.ensures.aware c.requires.registers.0
    (owner_has _ c.args.handle c.requires.handle
    (sym (c.is_owner-owner.ensures ∙ ap (λ (r : StockRegister). is_owner r) c.register-2.ensures) ∙ c.if-owner.true))
    (bare_register _ c.has_handle-filled.result c.if-filled.false
    (subst (λ (r : StockRegister). HasSomeHandle r → IsTrue c.has_handle-filled.result) c.register.ensures c.has_handle-filled.ensures.1))
    (sym c.is_plain-plain.ensures ∙ c.if-plain.true) line

pub returns-else-owner-clause-does : goal.returns-else-owner-clause-does
returns-else-owner-clause-does g c line =
    point_does c.counted_steps_leave.ensures c.args.stock.now c.point-seen.new.self c.args.from c.args.to c.args.handle
    c.point-seen.result c.kept.ensures.stock c.kept.ensures.aware c.requires.stake c.requires.budget
    c.requires.registers.0 c.requires.registers.1 c.requires.handle
    (bare_register _ c.has_handle-filled.result c.if-filled.false
    (subst (λ (r : StockRegister). HasSomeHandle r → IsTrue c.has_handle-filled.result) c.register.ensures c.has_handle-filled.ensures.1))
    (elim c.else-owner.branch [
      | else-owner-via-then-owner+else-plain w ↦ λ own. sym c.is_plain-plain.ensures ∙ w.if-plain.false
      | else-owner-via-else-owner w ↦
          other_counts c.args.stock.now c.args.from c.args.handle
          (sym (c.is_owner-owner.ensures ∙ ap (λ (r : StockRegister). is_owner r) c.register-2.ensures) ∙ w.if-owner.false)
    ])
    c.point-seen.ensures.points line
