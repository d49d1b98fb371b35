use Rattle.pa_execution.proofs.Gathering.{workers_tell}
use Rattle.pa_execution.proofs.laws.workers_tell.Goals as goal

pub returns : goal.returns
returns c = workers_tell
