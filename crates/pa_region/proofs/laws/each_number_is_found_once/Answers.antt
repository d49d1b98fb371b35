use Rattle.pa_region.proofs.OneTitle.{found_once}
use Rattle.pa_region.proofs.laws.each_number_is_found_once.Goals as goal

pub returns : goal.returns
returns c words views t k held = found_once words views t k held
