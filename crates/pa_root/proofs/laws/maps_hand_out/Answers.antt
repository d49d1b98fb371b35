use Rattle.pa_root.proofs.Mapped.{maps_hand_out}
use Rattle.pa_root.proofs.laws.maps_hand_out.Goals as goal

pub returns : goal.returns
returns c = maps_hand_out
