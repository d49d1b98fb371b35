use Rattle.pa_delay.proofs.Worked.{one_waits}
use Rattle.pa_delay.proofs.laws.one_waits.Goals as goal

pub returns : goal.returns
returns c = one_waits
