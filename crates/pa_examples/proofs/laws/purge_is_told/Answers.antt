use Rattle.pa_examples.proofs.told.Purge.{purge_is_played_out}
use Rattle.pa_examples.proofs.laws.purge_is_told.Goals as goal

pub returns : goal.returns
returns c = purge_is_played_out
