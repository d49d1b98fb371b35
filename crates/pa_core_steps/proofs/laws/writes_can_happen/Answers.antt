use Rattle.pa_core_steps.proofs.Storing.{writes_can_happen}
use Rattle.pa_core_steps.proofs.laws.writes_can_happen.Goals as goal

pub returns : goal.returns
returns c = writes_can_happen
