use Rattle.pa_ordered_runs.proofs.Whole.{files_have_timelines}
use Rattle.pa_ordered_runs.proofs.laws.file_runs_have_a_timeline.Goals as goal

pub returns : goal.returns
returns c = files_have_timelines
