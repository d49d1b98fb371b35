use Rattle.pa_region.proofs.Filled.{filled_here, filled_beside}
use Rattle.pa_region.proofs.step_laws.filled_words_have_the_value.Goals as goal

pub returns : goal.returns
returns c value t n words = ((λ i below inside. filled_here value t n words i below inside), (λ q out. filled_beside value t n words q out))
