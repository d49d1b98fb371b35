use Rattle.pa_region.proofs.Ends.{knows_logs}
use Rattle.pa_region.proofs.read_laws.all_logs_are_known.Goals as goal

pub returns : goal.returns
returns c words views i v k at_i every = knows_logs words views i v k at_i every
