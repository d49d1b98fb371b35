use Rattle.pa_audit_records.specs.ByKeys.{value_at}
use Rattle.pa_audit_holders.proofs.Owning.{entered_no_return}
use Rattle.pa_audit_holders.proofs.owners.enter_return.Goals as goal

pub returns-in-None-clause-enters : goal.returns-in-None-clause-enters
returns-in-None-clause-enters c = entered_no_return c.args.told (value_at c.args.firsts.now) c.in-None.ensures.none
