use Rattle.pa_region.proofs.Pieces.{own_as_own}
use Rattle.pa_region.proofs.step_laws.states_are_owns.Goals as goal

pub returns : goal.returns
returns c v t a = own_as_own v t a
