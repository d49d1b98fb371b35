use Rattle.pa_logs.proofs.Keeping.{listed_wait}
use Rattle.pa_logs.proofs.laws.listed_wait.Goals as goal

pub returns : goal.returns
returns c = listed_wait
