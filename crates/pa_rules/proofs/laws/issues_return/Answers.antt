use Rattle.pa_rules.proofs.Running.{issues_return}
use Rattle.pa_rules.proofs.laws.issues_return.Goals as goal

pub returns : goal.returns
returns c = issues_return
