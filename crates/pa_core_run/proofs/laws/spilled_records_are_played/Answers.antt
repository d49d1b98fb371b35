use Rattle.pa_core_run.proofs.Spilled.{spilled_records_play}
use Rattle.pa_core_run.proofs.laws.spilled_records_are_played.Goals as goal

pub returns : goal.returns
returns c = spilled_records_play
