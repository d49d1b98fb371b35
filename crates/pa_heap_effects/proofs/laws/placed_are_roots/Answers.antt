use Rattle.pa_heap_effects.proofs.Filing.{placed_are_roots}
use Rattle.pa_heap_effects.proofs.laws.placed_are_roots.Goals as goal

pub returns : goal.returns
returns c = placed_are_roots
