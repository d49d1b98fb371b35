use Rattle.pa_core_run.proofs.Quiet.{quiet_records_play}
use Rattle.pa_core_run.proofs.laws.quiet_records_are_played.Goals as goal

pub returns : goal.returns
returns c = quiet_records_play
