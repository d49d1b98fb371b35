use Rattle.pa_root.proofs.Giving.{what_comes_is_out}
use Rattle.pa_root.proofs.laws.what_comes_back_is_out.Goals as goal

pub returns : goal.returns
returns c = what_comes_is_out
