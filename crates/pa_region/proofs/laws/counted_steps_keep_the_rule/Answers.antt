use Rattle.pa_region.proofs.Found.{count_can, count_found, handle_held}
use Rattle.pa_region.proofs.CountStep.{count_keeps}
use Rattle.pa_region.proofs.laws.counted_steps_keep_the_rule.Goals as goal

pub returns : goal.returns
returns c step t words views i v k at_i can = (
  count_can step t words views i v k at_i can,
  count_found t words views i v k at_i (handle_held step t v can.0),
  count_keeps step t words views i v k at_i can,
)
