use Rattle.pa_region_core.proofs.Actors.{adds_nothing}
use Rattle.pa_region_core.proofs.laws.an_actor_adds_nothing.Goals as goal

pub returns : goal.returns
returns c = adds_nothing
