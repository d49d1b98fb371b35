use Rattle.pa_region.proofs.CutStep.{cut_event, cut_keeps, cut_unseen}
use Rattle.pa_region.proofs.laws.cuts_keep_the_rule.Goals as goal

pub returns : goal.returns
returns c t words views i v k at_i can zero = (
  cut_event t words views i v k at_i can zero,
  cut_keeps t words views i v k at_i can zero,
  (cut_unseen t words views i v k at_i can).1,
)
