use Rattle.pa_root.proofs.MapsBack.{maps_stand_or_came_back}
use Rattle.pa_root.proofs.laws.maps_stand_or_came_back.Goals as goal

pub returns : goal.returns
returns c = maps_stand_or_came_back
