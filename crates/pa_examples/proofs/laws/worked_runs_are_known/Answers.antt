use Rattle.pa_examples.proofs.worked.Knowing.{direct_map_is_known, two_threads_are_known}
use Rattle.pa_examples.proofs.laws.worked_runs_are_known.Goals as goal

pub returns-clause-direct_maps : goal.returns-clause-direct_maps
returns-clause-direct_maps c = direct_map_is_known

pub returns-clause-threads : goal.returns-clause-threads
returns-clause-threads c = two_threads_are_known
