use Rattle.pa_region.proofs.LookStep.{look_event}
use Rattle.pa_region.proofs.laws.each_look_is_a_load.Goals as goal

pub returns : goal.returns
returns c t words views i v k at_i mine = look_event t words views i v k at_i mine
