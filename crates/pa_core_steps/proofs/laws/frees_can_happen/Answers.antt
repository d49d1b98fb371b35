use Rattle.pa_core_steps.proofs.Freeing.{frees_can_happen}
use Rattle.pa_core_steps.proofs.laws.frees_can_happen.Goals as goal

pub returns : goal.returns
returns c = frees_can_happen
