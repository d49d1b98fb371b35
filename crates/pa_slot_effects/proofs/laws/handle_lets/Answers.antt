use Rattle.pa_slot_effects.proofs.Words.{handle_lets}
use Rattle.pa_slot_effects.proofs.laws.handle_lets.Goals as goal

pub returns : goal.returns
returns c = handle_lets
