use Rattle.pa_heap_effects.proofs.Acting.{front_leaves}
use Rattle.pa_heap_effects.proofs.laws.front_leaves.Goals as goal

pub returns : goal.returns
returns c = front_leaves
