use Rattle.pa_root.proofs.Lists.{journals_fit_pool}
use Rattle.pa_root.proofs.laws.journals_fit_the_pool.Goals as goal

pub returns : goal.returns
returns c = journals_fit_pool
