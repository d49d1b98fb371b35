use Rattle.pa_heap_effects.proofs.Filing.{line_passes}
use Rattle.pa_heap_effects.proofs.laws.line_passes.Goals as goal

pub returns : goal.returns
returns c = line_passes
