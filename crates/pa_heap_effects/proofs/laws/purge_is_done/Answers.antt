use Rattle.pa_heap_effects.proofs.Returned.{purge_is_done}
use Rattle.pa_heap_effects.proofs.laws.purge_is_done.Goals as goal

pub returns : goal.returns
returns c = purge_is_done
