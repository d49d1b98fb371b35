use Rattle.std.proofs.Common.{refl}
use Rattle.rand_core.specs.Steps.{first_words}
use Rattle.pa_trace.proofs.laws.first_draws.Goals as goal

pub returns : goal.returns
unfolding first_words
returns c = refl
