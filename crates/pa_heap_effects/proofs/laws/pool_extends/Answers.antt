use Rattle.pa_heap_effects.proofs.Pooling.{pool_extends}
use Rattle.pa_heap_effects.proofs.laws.pool_extends.Goals as goal

pub returns : goal.returns
returns c = pool_extends
