use Rattle.pa_verdict.proofs.Verdict.{titles_never_fail}
use Rattle.pa_verdict.proofs.laws.titles_never_fail.Goals as goal

pub returns : goal.returns
returns c = titles_never_fail
