use Rattle.pa_examples.proofs.told.Threads.{two_threads_are_played_out}
use Rattle.pa_examples.proofs.laws.two_threads_are_told.Goals as goal

pub returns : goal.returns
returns c = two_threads_are_played_out
