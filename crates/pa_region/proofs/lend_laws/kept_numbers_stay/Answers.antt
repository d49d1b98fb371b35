use Rattle.pa_region.proofs.LendBack.{kept_number}
use Rattle.pa_region.proofs.lend_laws.kept_numbers_stay.Goals as goal

pub returns : goal.returns
returns c v w n t a b keeps well free = kept_number v w n t a b keeps well free
