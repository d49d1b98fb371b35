use Rattle.pa_logs.proofs.Indexing.{indices_follow}
use Rattle.pa_logs.proofs.laws.indices_follow.Goals as goal

pub returns : goal.returns
returns c = indices_follow
