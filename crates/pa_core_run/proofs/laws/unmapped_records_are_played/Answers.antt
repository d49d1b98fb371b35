use Rattle.pa_core_run.proofs.Unmapped.{unmapped_records_play}
use Rattle.pa_core_run.proofs.laws.unmapped_records_are_played.Goals as goal

pub returns : goal.returns
returns c = unmapped_records_play
