use Rattle.pa_verdict.proofs.Verdict.{legal_is}
use Rattle.pa_verdict.proofs.laws.legal_is.Goals as goal

pub returns : goal.returns
returns c = legal_is
