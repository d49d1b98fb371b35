use Rattle.pa_heap_effects.proofs.Calls.{fill_is_done}
use Rattle.pa_heap_effects.proofs.laws.fill_is_done.Goals as goal

pub returns : goal.returns
returns c = fill_is_done
