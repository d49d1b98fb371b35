use Rattle.pa_timeline.proofs.Refused.{purges_have_none}
use Rattle.pa_timeline.proofs.laws.purges_have_no_timeline.Goals as goal

pub returns : goal.returns
returns c = purges_have_none
