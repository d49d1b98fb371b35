use Rattle.pa_examples.proofs.told.Maps.{direct_map_is_played_out}
use Rattle.pa_examples.proofs.laws.direct_map_is_told.Goals as goal

pub returns : goal.returns
returns c = direct_map_is_played_out
