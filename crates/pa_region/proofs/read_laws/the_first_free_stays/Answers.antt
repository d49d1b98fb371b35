use Rattle.pa_region.proofs.FirstFrees.{one_first}
use Rattle.pa_region.proofs.Standing.{first_longer}
use Rattle.pa_region.proofs.read_laws.the_first_free_stays.Goals as goal

pub returns : goal.returns
returns c =
    (λ history k n m first other. one_first history k n m first other, λ later history k n first. first_longer later history k n first)
