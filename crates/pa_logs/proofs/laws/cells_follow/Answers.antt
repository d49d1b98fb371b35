use Rattle.pa_logs.proofs.Celling.{cells_follow}
use Rattle.pa_logs.proofs.laws.cells_follow.Goals as goal

pub returns : goal.returns
returns c = cells_follow
