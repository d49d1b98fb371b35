use Rattle.pa_legal.proofs.Naming.{unnamed}
use Rattle.pa_legal.proofs.laws.unnamed.Goals as goal

pub returns : goal.returns
returns c = unnamed
