use Rattle.pa_execution.proofs.Gathering.{workers_hear}
use Rattle.pa_execution.proofs.laws.workers_hear.Goals as goal

pub returns : goal.returns
returns c = workers_hear
