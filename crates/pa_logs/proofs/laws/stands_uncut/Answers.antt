use Rattle.pa_logs.proofs.Uncutting.{stands_uncut}
use Rattle.pa_logs.proofs.laws.stands_uncut.Goals as goal

pub returns : goal.returns
returns c = stands_uncut
