use Rattle.pa_legal.proofs.holders.Maps.{new_maps}
use Rattle.pa_legal.proofs.laws.new_maps.Goals as goal

pub returns : goal.returns
returns c = new_maps
