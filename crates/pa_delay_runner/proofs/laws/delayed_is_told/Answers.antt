use Rattle.pa_delay_runner.proofs.Telling.{delayed_is_told}
use Rattle.pa_delay_runner.proofs.laws.delayed_is_told.Goals as goal

pub returns : goal.returns
returns c = delayed_is_told
