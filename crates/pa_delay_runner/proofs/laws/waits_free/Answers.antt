use Rattle.pa_delay_runner.proofs.Resting.{waits_free}
use Rattle.pa_delay_runner.proofs.laws.waits_free.Goals as goal

pub returns : goal.returns
returns c = waits_free
