use Rattle.pa_logs.proofs.Layering.{layers_follow}
use Rattle.pa_logs.proofs.laws.layers_follow.Goals as goal

pub returns : goal.returns
returns c = layers_follow
