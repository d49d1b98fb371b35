use Rattle.pa_timeline.proofs.Unordered.{gone_poison_has_none}
use Rattle.pa_timeline.proofs.laws.poison_then_content_has_no_timeline.Goals as goal

pub returns : goal.returns
returns c = gone_poison_has_none
