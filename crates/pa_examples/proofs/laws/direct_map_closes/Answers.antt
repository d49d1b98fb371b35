use Rattle.pa_examples.proofs.told.MapsClosed.{direct_map_closes}
use Rattle.pa_examples.proofs.laws.direct_map_closes.Goals as goal

pub returns : goal.returns
returns c = direct_map_closes
