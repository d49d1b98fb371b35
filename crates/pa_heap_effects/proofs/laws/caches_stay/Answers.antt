use Rattle.pa_heap_effects.proofs.Onwards.{caches_stay}
use Rattle.pa_heap_effects.proofs.laws.caches_stay.Goals as goal

pub returns : goal.returns
returns c = caches_stay
