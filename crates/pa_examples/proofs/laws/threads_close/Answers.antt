use Rattle.pa_examples.proofs.told.Closed.{threads_close}
use Rattle.pa_examples.proofs.laws.threads_close.Goals as goal

pub returns : goal.returns
returns c = threads_close
