use Rattle.pa_step_order.proofs.Whole.{timeline_follows}
use Rattle.pa_step_order.proofs.laws.timeline_follows.Goals as goal

pub returns : goal.returns
returns c = timeline_follows
