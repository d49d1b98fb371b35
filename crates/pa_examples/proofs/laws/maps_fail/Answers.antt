use Rattle.pa_examples.proofs.wrong.Again.{maps_fail}
use Rattle.pa_examples.proofs.laws.maps_fail.Goals as goal

pub returns : goal.returns
returns c = maps_fail
