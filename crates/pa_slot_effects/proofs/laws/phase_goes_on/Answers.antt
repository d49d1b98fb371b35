use Rattle.pa_slot_effects.proofs.Starting.{phase_goes_on}
use Rattle.pa_slot_effects.proofs.laws.phase_goes_on.Goals as goal

pub returns : goal.returns
returns c = phase_goes_on
