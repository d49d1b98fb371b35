use Rattle.pa_heap_effects.proofs.Onwards.{phase_ends}
use Rattle.pa_heap_effects.proofs.laws.phase_ends.Goals as goal

pub returns : goal.returns
returns c = phase_ends
