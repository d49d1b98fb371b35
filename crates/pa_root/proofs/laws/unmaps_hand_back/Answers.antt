use Rattle.pa_root.proofs.Unmapped.{unmaps_hand_back}
use Rattle.pa_root.proofs.laws.unmaps_hand_back.Goals as goal

pub returns : goal.returns
returns c = unmaps_hand_back
