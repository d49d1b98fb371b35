use Rattle.pa_region.proofs.UncutStep.{uncut_event, uncut_keeps}
use Rattle.pa_region.proofs.laws.uncuts_keep_the_rule.Goals as goal

pub returns : goal.returns
returns c t words views i v k at_i can = (uncut_event t words views i v k at_i can, uncut_keeps t words views i v k at_i can)
