use Rattle.pa_core_steps.proofs.Joining.{runs_join}
use Rattle.pa_core_steps.proofs.laws.runs_join.Goals as goal

pub returns : goal.returns
returns c = runs_join
