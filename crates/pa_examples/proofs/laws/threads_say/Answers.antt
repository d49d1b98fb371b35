use Rattle.pa_examples.proofs.told.AllSaid.{threads_say}
use Rattle.pa_examples.proofs.laws.threads_say.Goals as goal

pub returns : goal.returns
returns c = threads_say
