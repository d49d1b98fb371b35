use Rattle.pa_core_run.proofs.Purged.{purged_records_play}
use Rattle.pa_core_run.proofs.laws.purged_records_are_played.Goals as goal

pub returns : goal.returns
returns c = purged_records_play
