use Rattle.pa_heap_effects.proofs.Filing.{starts_empty}
use Rattle.pa_heap_effects.proofs.laws.starts_empty.Goals as goal

pub returns : goal.returns
returns c = starts_empty
