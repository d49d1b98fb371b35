use Rattle.pa_logs.proofs.Whole.{legal_is_told}
use Rattle.pa_logs.proofs.laws.legal_is_told.Goals as goal

pub returns : goal.returns
returns c = legal_is_told
