use Rattle.pa_legal.proofs.Whole.{clauses_follow}
use Rattle.pa_legal.proofs.laws.clauses_follow.Goals as goal

pub returns : goal.returns
returns c = clauses_follow
