use Rattle.pa_core_steps.proofs.Storing.{issues_can_happen}
use Rattle.pa_core_steps.proofs.laws.issues_can_happen.Goals as goal

pub returns : goal.returns
returns c = issues_can_happen
