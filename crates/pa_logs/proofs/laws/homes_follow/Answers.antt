use Rattle.pa_logs.proofs.Homing.{homes_follow}
use Rattle.pa_logs.proofs.laws.homes_follow.Goals as goal

pub returns : goal.returns
returns c = homes_follow
