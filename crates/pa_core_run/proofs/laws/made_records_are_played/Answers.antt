use Rattle.pa_core_run.proofs.Refills.{made_records_play}
use Rattle.pa_core_run.proofs.laws.made_records_are_played.Goals as goal

pub returns : goal.returns
returns c = made_records_play
