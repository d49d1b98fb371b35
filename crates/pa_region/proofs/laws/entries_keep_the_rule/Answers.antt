use Rattle.pa_region.proofs.EnterStep.{enter_keeps}
use Rattle.pa_region.proofs.laws.entries_keep_the_rule.Goals as goal

pub returns : goal.returns
returns c k numbers words views i v r at_i can = enter_keeps k numbers words views i v r at_i can
