use Rattle.pa_legal.proofs.Titling.{one_kind}
use Rattle.pa_legal.proofs.laws.one_kind.Goals as goal

pub returns : goal.returns
returns c = one_kind
