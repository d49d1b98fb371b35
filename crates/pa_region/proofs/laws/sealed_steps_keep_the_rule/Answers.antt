use Rattle.pa_slot.specs.declared.word.Step.TheVariants.{Issue}
use Rattle.pa_region.proofs.Found.{count_can, count_found, handle_held}
use Rattle.pa_region.proofs.SealStep.{sealed_keeps}
use Rattle.pa_region.proofs.laws.sealed_steps_keep_the_rule.Goals as goal

pub returns : goal.returns
returns c t words views i v k at_i can = (
  count_can Issue t words views i v k at_i can,
  count_found t words views i v k at_i (handle_held Issue t v can.0),
  sealed_keeps t words views i v k at_i can,
)
