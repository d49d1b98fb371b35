use Rattle.pa_slot_effects.proofs.Starting.{starts_told}
use Rattle.pa_slot_effects.proofs.laws.starts_told.Goals as goal

pub returns : goal.returns
returns c = starts_told
