use Rattle.pa_legal.proofs.Standing.{cached_out}
use Rattle.pa_legal.proofs.laws.cached_out.Goals as goal

pub returns : goal.returns
returns c = cached_out
