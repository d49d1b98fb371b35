use Rattle.pa_step_order.proofs.Signing.{segments_follow}
use Rattle.pa_step_order.proofs.laws.segments_follow.Goals as goal

pub returns : goal.returns
returns c = segments_follow
