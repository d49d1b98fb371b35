use Rattle.pa_logs.proofs.Sizing.{lengths_follow}
use Rattle.pa_logs.proofs.laws.lengths_follow.Goals as goal

pub returns : goal.returns
returns c = lengths_follow
