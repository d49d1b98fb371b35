use Rattle.pa_logs.proofs.Worked.{worked_is_read_off}
use Rattle.pa_logs.proofs.laws.worked_is_read_off.Goals as goal

pub returns : goal.returns
returns c = worked_is_read_off
