use Rattle.pa_root.proofs.Whole.{made_is_whole}
use Rattle.pa_root.proofs.laws.made_slots_are_whole.Goals as goal

pub returns : goal.returns
returns c = made_is_whole
