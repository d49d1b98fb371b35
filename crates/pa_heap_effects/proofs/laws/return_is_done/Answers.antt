use Rattle.pa_heap_effects.proofs.Returned.{return_is_done}
use Rattle.pa_heap_effects.proofs.laws.return_is_done.Goals as goal

pub returns : goal.returns
returns c = return_is_done
