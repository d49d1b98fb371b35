use Rattle.pa_heap_effects.proofs.Filing.{same_is_placed}
use Rattle.pa_heap_effects.proofs.laws.same_is_placed.Goals as goal

pub returns : goal.returns
returns c = same_is_placed
