use Rattle.pa_region.proofs.CountEvent.{count_event}
use Rattle.pa_region.proofs.laws.each_counted_step_is_its_event.Goals as goal

pub returns : goal.returns
returns c step t words views i v k at_i can = count_event step t words views i v k at_i can
