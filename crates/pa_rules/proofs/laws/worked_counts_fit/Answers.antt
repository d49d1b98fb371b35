use Rattle.pa_rules.proofs.Worked.{purge_is_counted}
use Rattle.pa_rules.proofs.laws.worked_counts_fit.Goals as goal

pub returns : goal.returns
returns c = purge_is_counted
