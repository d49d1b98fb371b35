use Rattle.pa_region.proofs.HandStep.{hand_parts, hand_keeps}
use Rattle.pa_region.proofs.laws.hands_keep_the_rule.Goals as goal

pub returns : goal.returns
returns c p words views i v k at_i can = (hand_parts p v can, hand_keeps p words views i v k at_i can)
