use Rattle.pa_logs.proofs.Merging.{threads_merge}
use Rattle.pa_logs.proofs.laws.threads_merge.Goals as goal

pub returns : goal.returns
returns c = threads_merge
