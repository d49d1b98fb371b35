use Rattle.pa_core_steps.proofs.Handling.{resets_can_happen}
use Rattle.pa_core_steps.proofs.laws.resets_can_happen.Goals as goal

pub returns : goal.returns
returns c = resets_can_happen
