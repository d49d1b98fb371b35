use Rattle.pa_execution.proofs.Heaping.{courses_tell_runner}
use Rattle.pa_execution.proofs.laws.courses_tell_runner.Goals as goal

pub returns : goal.returns
returns c = courses_tell_runner
