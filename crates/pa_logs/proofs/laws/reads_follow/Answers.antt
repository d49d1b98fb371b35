use Rattle.pa_logs.proofs.Reading.{reads_follow}
use Rattle.pa_logs.proofs.laws.reads_follow.Goals as goal

pub returns : goal.returns
returns c = reads_follow
