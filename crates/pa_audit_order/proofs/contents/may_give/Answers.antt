use Rattle.std.proofs.Common.{inl, inr}
use Rattle.std.proofs.lemmas.Bool.{false≢true}
use Rattle.pa_audit_records.specs.Tables.{regs_in}
use Rattle.pa_audit_order.proofs.Giving.{value_may}
use Rattle.pa_audit_order.proofs.contents.may_give.Goals as goal

pub returns-then-gives_content : goal.returns-then-gives_content
returns-then-gives_content c =
    let may = value_may c.args.records.now (regs_in c.args.registers.now c.args.told.thread) c.args.told c.args.told.answer
    c.in-Value.seen c.in-Value.value c.number-at.result c.in-Value.is c.number-at.ensures in
    (λ yes. may.0 (inl (c.gives_content.ensures.0 yes)), λ given. c.if-gives_content.true)

pub returns-else-gives_content : goal.returns-else-gives_content
returns-else-gives_content c =
    let may = value_may c.args.records.now (regs_in c.args.registers.now c.args.told.thread) c.args.told c.args.told.answer
    c.in-Value.seen c.in-Value.value c.number-at.result c.in-Value.is c.number-at.ensures in (
      λ yes. may.0 (inr (c.may_find_poison.ensures.0 yes)),
      λ given. elim (may.1 given) [
        | inl content ↦ absurd (false≢true (c.if-gives_content.ensures.1 content))
        | inr poison ↦ c.may_find_poison.ensures.1 poison
      ],
    )
