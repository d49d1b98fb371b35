use Rattle.pa_root.proofs.Filling.{what_is_made_can_be_cut}
use Rattle.pa_root.proofs.laws.what_is_made_can_be_cut.Goals as goal

pub returns : goal.returns
returns c = what_is_made_can_be_cut
