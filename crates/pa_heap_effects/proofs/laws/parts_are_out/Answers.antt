use Rattle.pa_heap_effects.proofs.Lists.{parts_are_out}
use Rattle.pa_heap_effects.proofs.laws.parts_are_out.Goals as goal

pub returns : goal.returns
returns c = parts_are_out
