use Rattle.pa_core_run.proofs.Walking.{walks_whole}
use Rattle.pa_core_run.proofs.laws.played_records_make_a_run.Goals as goal

pub returns : goal.returns
returns c = walks_whole
