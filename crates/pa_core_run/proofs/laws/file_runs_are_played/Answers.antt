use Rattle.pa_core_run.proofs.Whole.{files_are_played}
use Rattle.pa_core_run.proofs.laws.file_runs_are_played.Goals as goal

pub returns : goal.returns
returns c = files_are_played
