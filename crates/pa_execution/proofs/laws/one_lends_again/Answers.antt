use Rattle.pa_execution.proofs.Gathering.{one_lends_again}
use Rattle.pa_execution.proofs.laws.one_lends_again.Goals as goal

pub returns : goal.returns
returns c = one_lends_again
