use Rattle.pa_heap_effects.proofs.Maps.{map_is_done}
use Rattle.pa_heap_effects.proofs.laws.map_is_done.Goals as goal

pub returns : goal.returns
returns c = map_is_done
