use Rattle.pa_slot_effects.proofs.Ops.{reset_goes_on}
use Rattle.pa_slot_effects.proofs.laws.reset_goes_on.Goals as goal

pub returns : goal.returns
returns c = reset_goes_on
