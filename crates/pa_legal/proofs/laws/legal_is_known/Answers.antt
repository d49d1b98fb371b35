use Rattle.pa_legal.proofs.Converse.{legal_is_known}
use Rattle.pa_legal.proofs.laws.legal_is_known.Goals as goal

pub returns : goal.returns
returns c = legal_is_known
