use Rattle.pa_root.proofs.Taken.{fills_hand_out}
use Rattle.pa_root.proofs.laws.fills_hand_out.Goals as goal

pub returns : goal.returns
returns c = fills_hand_out
