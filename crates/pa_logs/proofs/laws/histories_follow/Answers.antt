use Rattle.pa_logs.proofs.Histories.{histories_follow}
use Rattle.pa_logs.proofs.laws.histories_follow.Goals as goal

pub returns : goal.returns
returns c = histories_follow
