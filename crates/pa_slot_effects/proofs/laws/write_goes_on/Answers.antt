use Rattle.pa_slot_effects.proofs.Ops.{write_goes_on}
use Rattle.pa_slot_effects.proofs.laws.write_goes_on.Goals as goal

pub returns : goal.returns
returns c = write_goes_on
