use Rattle.pa_legal.proofs.Standing.{out_none}
use Rattle.pa_legal.proofs.laws.out_none.Goals as goal

pub returns : goal.returns
returns c = out_none
