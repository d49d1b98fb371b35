use Rattle.pa_slot_effects.proofs.Swapping.{swap_goes_on}
use Rattle.pa_slot_effects.proofs.laws.swap_goes_on.Goals as goal

pub returns : goal.returns
returns c = swap_goes_on
