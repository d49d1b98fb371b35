use Rattle.pa_heap_effects.proofs.Unmapped.{unmap_is_done}
use Rattle.pa_heap_effects.proofs.laws.unmap_is_done.Goals as goal

pub returns : goal.returns
returns c = unmap_is_done
