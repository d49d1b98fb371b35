use Rattle.pa_timeline.proofs.Unordered.{copied_has_none}
use Rattle.pa_timeline.proofs.laws.read_before_copies_has_no_timeline.Goals as goal

pub returns : goal.returns
returns c = copied_has_none
