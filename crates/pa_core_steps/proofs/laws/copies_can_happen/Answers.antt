use Rattle.pa_core_steps.proofs.Handling.{copies_can_happen}
use Rattle.pa_core_steps.proofs.laws.copies_can_happen.Goals as goal

pub returns : goal.returns
returns c = copies_can_happen
