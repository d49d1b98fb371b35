use Rattle.pa_region.proofs.SealStep.{sealed_event}
use Rattle.pa_region.proofs.laws.each_sealed_step_is_its_event.Goals as goal

pub returns : goal.returns
returns c t words views i v k at_i can = sealed_event t words views i v k at_i can
