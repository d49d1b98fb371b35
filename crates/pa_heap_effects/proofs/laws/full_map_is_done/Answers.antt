use Rattle.pa_heap_effects.proofs.Maps.{full_map_is_done}
use Rattle.pa_heap_effects.proofs.laws.full_map_is_done.Goals as goal

pub returns : goal.returns
returns c = full_map_is_done
