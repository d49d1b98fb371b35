use Rattle.pa_execution.proofs.Heaping.{turns_tell}
use Rattle.pa_execution.proofs.laws.turns_tell.Goals as goal

pub returns : goal.returns
returns c = turns_tell
