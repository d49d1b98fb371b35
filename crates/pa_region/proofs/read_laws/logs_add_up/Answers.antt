use Rattle.pa_region.proofs.Standing.{logged_two}
use Rattle.pa_region.proofs.read_laws.logs_add_up.Goals as goal

pub returns : goal.returns
returns c v = logged_two v
