use Rattle.pa_region.proofs.TakeLaws.{left_whole, right_whole}
use Rattle.pa_region.proofs.take_laws.keepers_have_all.Goals as goal

pub returns : goal.returns
returns c v w k a b both = ((λ has. left_whole v w k a both has), (λ has. right_whole v w k b both has))
