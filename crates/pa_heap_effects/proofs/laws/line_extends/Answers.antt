use Rattle.pa_heap_effects.proofs.Extending.{line_extends}
use Rattle.pa_heap_effects.proofs.laws.line_extends.Goals as goal

pub returns : goal.returns
returns c = line_extends
