use Rattle.pa_dangle.proofs.Worked.{worked_uses}
use Rattle.pa_dangle.proofs.laws.worked_uses_fit.Goals as goal

pub returns : goal.returns
returns c = worked_uses
