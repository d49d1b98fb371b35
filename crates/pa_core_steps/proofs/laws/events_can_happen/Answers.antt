use Rattle.pa_core_steps.proofs.Possible.{events_can_happen}
use Rattle.pa_core_steps.proofs.laws.events_can_happen.Goals as goal

pub returns : goal.returns
returns c = events_can_happen
