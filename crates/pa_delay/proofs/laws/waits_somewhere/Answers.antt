use Rattle.pa_delay.proofs.Waits.{waits_somewhere}
use Rattle.pa_delay.proofs.laws.waits_somewhere.Goals as goal

pub returns : goal.returns
returns c = waits_somewhere
