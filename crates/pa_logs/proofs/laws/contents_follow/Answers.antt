use Rattle.pa_logs.proofs.Readers.{contents_follow}
use Rattle.pa_logs.proofs.laws.contents_follow.Goals as goal

pub returns : goal.returns
returns c = contents_follow
