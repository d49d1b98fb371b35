use Rattle.pa_region.proofs.TakeLaws.{left_number, right_number}
use Rattle.pa_region.proofs.take_laws.free_numbers_stay.Goals as goal

pub returns : goal.returns
returns c v w n t a b both long well =
    ((λ free. left_number v w n t a both long well free), (λ free. right_number v w n t b both long well free))
