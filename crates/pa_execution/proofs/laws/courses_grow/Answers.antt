use Rattle.pa_execution.proofs.Growing.{courses_grow}
use Rattle.pa_execution.proofs.laws.courses_grow.Goals as goal

pub returns : goal.returns
returns c = courses_grow
