use Rattle.pa_core_run.proofs.Refused.{refused_records_play}
use Rattle.pa_core_run.proofs.laws.refused_records_are_played.Goals as goal

pub returns : goal.returns
returns c = refused_records_play
