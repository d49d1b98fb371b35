use Rattle.pa_logs.proofs.Said.{layers_tell_all}
use Rattle.pa_logs.proofs.laws.layers_tell_all.Goals as goal

pub returns : goal.returns
returns c = layers_tell_all
