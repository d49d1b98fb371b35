use Rattle.pa_execution.proofs.Growing.{turns_grow}
use Rattle.pa_execution.proofs.laws.turns_grow.Goals as goal

pub returns : goal.returns
returns c = turns_grow
