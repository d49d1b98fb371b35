use Rattle.pa_region.proofs.Parting.{given_seal}
use Rattle.pa_region.proofs.step_laws.hands_keep_seals.Goals as goal

pub returns : goal.returns
returns c v t few has = given_seal v t few has
