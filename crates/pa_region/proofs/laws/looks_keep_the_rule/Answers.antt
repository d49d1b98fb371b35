use Rattle.pa_region.proofs.Pieces.{title_held}
use Rattle.pa_region.proofs.Found.{count_found}
use Rattle.pa_region.proofs.LookStep.{look_keeps}
use Rattle.pa_region.proofs.laws.looks_keep_the_rule.Goals as goal

pub returns : goal.returns
returns c t words views i v k at_i mine has =
    (count_found t words views i v k at_i (title_held v t mine), look_keeps t words views i v k at_i (title_held v t mine) has)
