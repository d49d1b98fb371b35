use Rattle.pa_slot_effects.proofs.Ops.{free_goes_on}
use Rattle.pa_slot_effects.proofs.laws.free_goes_on.Goals as goal

pub returns : goal.returns
returns c = free_goes_on
