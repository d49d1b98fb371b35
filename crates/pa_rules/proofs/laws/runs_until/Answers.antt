use Rattle.pa_rules.proofs.Phases.{runs_until}
use Rattle.pa_rules.proofs.laws.runs_until.Goals as goal

pub returns : goal.returns
returns c = runs_until
