use Rattle.pa_root.proofs.MapsLeft.{maps_are_taken}
use Rattle.pa_root.proofs.laws.maps_are_taken.Goals as goal

pub returns : goal.returns
returns c = maps_are_taken
