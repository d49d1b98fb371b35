use Rattle.pa_examples.proofs.worked.PlayedRuns.{worked_are_played}
use Rattle.pa_examples.proofs.laws.worked_runs_are_played.Goals as goal

pub returns : goal.returns
returns c = worked_are_played
