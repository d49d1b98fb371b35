use Rattle.pa_run_reader.proofs.AllGathered.{items_are_run}
use Rattle.pa_run_reader.proofs.laws.items_in_order_are_runs.Goals as goal

pub returns : goal.returns
returns c = items_are_run
