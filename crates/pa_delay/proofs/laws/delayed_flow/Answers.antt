use Rattle.pa_delay.proofs.Flowing.{delayed_flow}
use Rattle.pa_delay.proofs.laws.delayed_flow.Goals as goal

pub returns : goal.returns
returns c = delayed_flow
