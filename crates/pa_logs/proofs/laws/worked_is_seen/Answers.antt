use Rattle.pa_logs.proofs.WorkedSeen.{worked_is_seen}
use Rattle.pa_logs.proofs.laws.worked_is_seen.Goals as goal

pub returns : goal.returns
returns c = worked_is_seen
