use Rattle.pa_legal.proofs.Whole.{legal_follows}
use Rattle.pa_legal.proofs.laws.legal_follows.Goals as goal

pub returns : goal.returns
returns c = legal_follows
