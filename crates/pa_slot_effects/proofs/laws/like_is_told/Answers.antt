use Rattle.pa_slot_effects.proofs.Starting.{like_is_told}
use Rattle.pa_slot_effects.proofs.laws.like_is_told.Goals as goal

pub returns : goal.returns
returns c = like_is_told
