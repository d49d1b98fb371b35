use Rattle.pa_heap_effects.proofs.Calls.{full_is_done}
use Rattle.pa_heap_effects.proofs.laws.full_is_done.Goals as goal

pub returns : goal.returns
returns c = full_is_done
