use Rattle.pa_legal.proofs.owners.Putting.{legal_has_handles}
use Rattle.pa_legal.proofs.laws.legal_has_handles.Goals as goal

pub returns : goal.returns
returns c = legal_has_handles
