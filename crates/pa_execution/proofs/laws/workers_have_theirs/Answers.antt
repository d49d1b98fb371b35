use Rattle.pa_execution.proofs.Recording.{workers_have_theirs}
use Rattle.pa_execution.proofs.laws.workers_have_theirs.Goals as goal

pub returns : goal.returns
returns c = workers_have_theirs
