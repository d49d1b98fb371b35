use Rattle.pa_timeline.proofs.Refused.{slot_and_cell_have_none}
use Rattle.pa_timeline.proofs.laws.slot_and_cell_have_no_timeline.Goals as goal

pub returns : goal.returns
returns c = slot_and_cell_have_none
