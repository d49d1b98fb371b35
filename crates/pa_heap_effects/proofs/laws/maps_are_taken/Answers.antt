use Rattle.pa_heap_effects.proofs.Unmapping.{maps_are_taken}
use Rattle.pa_heap_effects.proofs.laws.maps_are_taken.Goals as goal

pub returns : goal.returns
returns c = maps_are_taken
