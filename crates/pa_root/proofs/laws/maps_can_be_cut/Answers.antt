use Rattle.pa_root.proofs.Rows.{maps_can_be_cut}
use Rattle.pa_root.proofs.laws.maps_can_be_cut.Goals as goal

pub returns : goal.returns
returns c = maps_can_be_cut
