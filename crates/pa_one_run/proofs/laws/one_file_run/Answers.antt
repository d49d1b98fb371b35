use Rattle.pa_one_run.proofs.OneRun.{one_file_run}
use Rattle.pa_one_run.proofs.laws.one_file_run.Goals as goal

pub returns : goal.returns
returns c = one_file_run
