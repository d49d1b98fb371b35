use Rattle.pa_slot_effects.proofs.Worked.{worked_turns}
use Rattle.pa_slot_effects.proofs.laws.worked_turns.Goals as goal

pub returns : goal.returns
returns c = worked_turns
