use Rattle.pa_rules.proofs.Flowing.{caches_keep}
use Rattle.pa_rules.proofs.laws.caches_keep.Goals as goal

pub returns : goal.returns
returns c = caches_keep
