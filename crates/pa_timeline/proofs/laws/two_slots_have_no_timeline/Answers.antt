use Rattle.pa_timeline.proofs.Refused.{two_slots_have_none}
use Rattle.pa_timeline.proofs.laws.two_slots_have_no_timeline.Goals as goal

pub returns : goal.returns
returns c = two_slots_have_none
