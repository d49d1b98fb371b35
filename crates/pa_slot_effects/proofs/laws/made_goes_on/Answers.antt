use Rattle.pa_slot_effects.proofs.Ops.{made_goes_on}
use Rattle.pa_slot_effects.proofs.laws.made_goes_on.Goals as goal

pub returns : goal.returns
returns c = made_goes_on
