use Rattle.pa_execution.proofs.Keepers.{courses_tell_all}
use Rattle.pa_execution.proofs.laws.courses_tell_all.Goals as goal

pub returns : goal.returns
returns c = courses_tell_all
