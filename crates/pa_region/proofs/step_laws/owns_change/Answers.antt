use Rattle.pa_region.specs.Moves.{is_own_of}
use Rattle.pa_region.proofs.Adding.{changed_sum}
use Rattle.pa_region.proofs.Leaving.{one_own}
use Rattle.pa_region.proofs.step_laws.owns_change.Goals as goal

pub returns : goal.returns
returns c = ((λ t change os has. one_own t change os has), (λ t change f os same. changed_sum (is_own_of t) change f os same))
