use Rattle.std.proofs.Common.{◌∙◌}
use Rattle.pa_audit_records.specs.ByKeys.{value_at}
use Rattle.pa_audit_holders.proofs.Going.{gone_same}
use Rattle.pa_audit_holders.proofs.gone.enter_gone.Goals as goal

pub returns-in-None : goal.returns-in-None
returns-in-None c =
    λ before h. gone_same before c.args.entry.now (value_at c.args.gone.now)
    (λ asked slot is. c.in-None.ensures.none asked slot (c.act.ensures.act ∙ is)) h
