use Rattle.pa_slot_effects.proofs.Ending.{ends_right}
use Rattle.pa_slot_effects.proofs.laws.ends_right.Goals as goal

pub returns : goal.returns
returns c = ends_right
