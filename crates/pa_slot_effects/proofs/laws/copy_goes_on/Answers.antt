use Rattle.pa_slot_effects.proofs.Ops.{copy_goes_on}
use Rattle.pa_slot_effects.proofs.laws.copy_goes_on.Goals as goal

pub returns : goal.returns
returns c = copy_goes_on
