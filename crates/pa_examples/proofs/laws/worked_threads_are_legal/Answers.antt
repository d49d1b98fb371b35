use Rattle.pa_examples.proofs.worked.Told.{two_threads_are_told}
use Rattle.pa_examples.proofs.worked.Runs.{two_threads_are_legal}
use Rattle.pa_examples.proofs.laws.worked_threads_are_legal.Goals as goal

pub returns-clause-told : goal.returns-clause-told
returns-clause-told c = two_threads_are_told

pub returns-clause-legal : goal.returns-clause-legal
returns-clause-legal c = two_threads_are_legal
