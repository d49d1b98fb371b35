use Rattle.pa_examples.proofs.told.Fitting.{purge_has_lists}
use Rattle.pa_examples.proofs.laws.purge_has_lists.Goals as goal

pub returns : goal.returns
returns c = purge_has_lists
