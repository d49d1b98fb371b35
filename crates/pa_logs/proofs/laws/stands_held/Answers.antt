use Rattle.pa_logs.proofs.Keeping.{stands_held}
use Rattle.pa_logs.proofs.laws.stands_held.Goals as goal

pub returns : goal.returns
returns c = stands_held
