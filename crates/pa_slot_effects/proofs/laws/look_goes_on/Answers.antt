use Rattle.pa_slot_effects.proofs.Looking.{look_goes_on}
use Rattle.pa_slot_effects.proofs.laws.look_goes_on.Goals as goal

pub returns : goal.returns
returns c = look_goes_on
