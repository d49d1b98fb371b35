use Rattle.pa_rules.proofs.Worked.{purge_is_cached}
use Rattle.pa_rules.proofs.laws.worked_caches_fit.Goals as goal

pub returns : goal.returns
returns c = purge_is_cached
