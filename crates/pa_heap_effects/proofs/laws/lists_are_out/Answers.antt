use Rattle.pa_heap_effects.proofs.Listed.{lists_are_out}
use Rattle.pa_heap_effects.proofs.laws.lists_are_out.Goals as goal

pub returns : goal.returns
returns c = lists_are_out
