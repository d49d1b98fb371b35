use Rattle.pa_timeline.proofs.Having.{threads_have_one}
use Rattle.pa_timeline.proofs.laws.threads_have_a_timeline.Goals as goal

pub returns : goal.returns
returns c = threads_have_one
