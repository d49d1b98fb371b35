use Rattle.pa_examples.proofs.told.Fitting.{two_threads_have_lists}
use Rattle.pa_examples.proofs.laws.two_threads_have_lists.Goals as goal

pub returns : goal.returns
returns c = two_threads_have_lists
