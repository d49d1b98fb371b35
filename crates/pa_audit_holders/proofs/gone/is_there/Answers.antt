use Rattle.std.proofs.Common.{ap, refl, sym, ◌∙◌}
use Rattle.pa_audit_records.specs.ByKeys.{value_at}
use Rattle.pa_audit_holders.proofs.Going.{there_below}
use Rattle.pa_audit_holders.proofs.gone.is_there.Goals as goal

pub returns-in-Some : goal.returns-in-Some
returns-in-Some c = λ before h.
    let f = value_at c.args.gone.now in
    let is = there_below before c.args.slot.slot c.in-Some.least c.args.slot.number f c.key.ensures.start
    (ap f (sym c.key.ensures.key) ∙ sym c.in-Some.ensures) h in
    (λ yes. is.0 (c.is_below.ensures.0 yes), λ each. c.is_below.ensures.1 (is.1 each))

pub returns-in-None : goal.returns-in-None
returns-in-None c = λ before h.
    let f = value_at c.args.gone.now in (
      λ yes n gone. absurd (h.miss c.args.slot.slot n c.key.ensures.start (ap f (sym c.key.ensures.key) ∙ sym c.in-None.ensures) gone),
      λ each. refl,
    )
