use Rattle.pa_examples.proofs.told.Fitting.{direct_map_has_lists}
use Rattle.pa_examples.proofs.laws.direct_map_has_lists.Goals as goal

pub returns : goal.returns
returns c = direct_map_has_lists
