use Rattle.pa_timeline.proofs.Unordered.{early_has_none}
use Rattle.pa_timeline.proofs.laws.read_before_free_has_no_timeline.Goals as goal

pub returns : goal.returns
returns c = early_has_none
