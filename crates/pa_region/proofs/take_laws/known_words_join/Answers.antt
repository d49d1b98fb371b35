use Rattle.pa_region.proofs.TakeLaws.{left_known, right_known}
use Rattle.pa_region.proofs.take_laws.known_words_join.Goals as goal

pub returns : goal.returns
returns c v w q both long = ((λ knows. left_known v w q long knows), (λ knows. right_known v w q both long knows))
