use Rattle.pa_heap_effects.proofs.Onwards.{run_goes_on}
use Rattle.pa_heap_effects.proofs.laws.run_goes_on.Goals as goal

pub returns : goal.returns
returns c = run_goes_on
