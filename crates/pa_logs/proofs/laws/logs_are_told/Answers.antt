use Rattle.pa_logs.proofs.Logs.{logs_are_told}
use Rattle.pa_logs.proofs.laws.logs_are_told.Goals as goal

pub returns : goal.returns
returns c = logs_are_told
