use Rattle.pa_dangle.proofs.Copying.{uses_have_origins}
use Rattle.pa_dangle.proofs.laws.uses_have_origins.Goals as goal

pub returns : goal.returns
returns c = uses_have_origins
