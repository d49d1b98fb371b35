use Rattle.pa_slot_effects.proofs.Looking.{none_goes_on}
use Rattle.pa_slot_effects.proofs.laws.none_goes_on.Goals as goal

pub returns : goal.returns
returns c = none_goes_on
