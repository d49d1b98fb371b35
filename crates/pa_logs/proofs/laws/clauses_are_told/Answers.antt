use Rattle.pa_logs.proofs.Whole.{clauses_are_told}
use Rattle.pa_logs.proofs.laws.clauses_are_told.Goals as goal

pub returns : goal.returns
returns c = clauses_are_told
