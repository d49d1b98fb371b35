use Rattle.pa_region_core.proofs.Aside.{stays_aside}
use Rattle.pa_region_core.proofs.laws.an_actor_stays_aside.Goals as goal

pub returns : goal.returns
returns c = stays_aside
