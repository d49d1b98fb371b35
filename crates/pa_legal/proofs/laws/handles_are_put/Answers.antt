use Rattle.pa_legal.proofs.owners.Putting.{handles_are_put}
use Rattle.pa_legal.proofs.laws.handles_are_put.Goals as goal

pub returns : goal.returns
returns c = handles_are_put
