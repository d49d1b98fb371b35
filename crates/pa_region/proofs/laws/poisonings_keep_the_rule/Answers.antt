use Rattle.pa_region.proofs.PoisonStep.{poison_event, poison_keeps}
use Rattle.pa_region.proofs.laws.poisonings_keep_the_rule.Goals as goal

pub returns : goal.returns
returns c t j words views i v k at_i can = (poison_event t j words views i v k at_i can, poison_keeps t j words views i v k at_i can)
