use Rattle.pa_legal.proofs.Holdings.{holders_follow}
use Rattle.pa_legal.proofs.laws.holders_follow.Goals as goal

pub returns : goal.returns
returns c = holders_follow
