use Rattle.std.proofs.Common.{ap, sym, ◌∙◌}
use Rattle.pa_audit_records.specs.ByKeys.{value_at}
use Rattle.pa_audit_holders.proofs.Going.{has_is}
use Rattle.pa_audit_holders.proofs.gone.has.Goals as goal

pub returns-in-Some : goal.returns-in-Some
returns-in-Some c = λ before h.
    let f = value_at c.args.gone.now in
    has_is before c.args.slot _ f c.key.ensures.start (ap f (sym c.key.ensures.key) ∙ sym c.in-Some.ensures) h

pub returns-in-None : goal.returns-in-None
returns-in-None c = λ before h.
    let f = value_at c.args.gone.now in
    has_is before c.args.slot _ f c.key.ensures.start (ap f (sym c.key.ensures.key) ∙ sym c.in-None.ensures) h
