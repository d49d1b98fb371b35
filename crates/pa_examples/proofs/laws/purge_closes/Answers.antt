use Rattle.pa_examples.proofs.told.PurgeClosed.{purge_closes}
use Rattle.pa_examples.proofs.laws.purge_closes.Goals as goal

pub returns : goal.returns
returns c = purge_closes
