use Rattle.pa_region.proofs.Leaving.{entry_leaves}
use Rattle.pa_region.proofs.step_laws.entries_stand_in_logs.Goals as goal

pub returns : goal.returns
returns c e v w has same = entry_leaves e v w has same
