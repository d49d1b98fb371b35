use Rattle.pa_region.proofs.AddStep.{add_keeps, total_small}
use Rattle.pa_region.proofs.laws.additions_keep_the_rule.Goals as goal

pub returns : goal.returns
returns c k bytes words views i v kept at_i can =
    (total_small k bytes words views i v kept at_i can, add_keeps k bytes words views i v kept at_i can)
