use Rattle.pa_logs.proofs.Swapping.{swaps_follow}
use Rattle.pa_logs.proofs.laws.swaps_follow.Goals as goal

pub returns : goal.returns
returns c = swaps_follow
