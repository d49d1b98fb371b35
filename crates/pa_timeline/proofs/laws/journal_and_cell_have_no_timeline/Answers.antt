use Rattle.pa_timeline.proofs.Refused.{journal_and_cell_have_none}
use Rattle.pa_timeline.proofs.laws.journal_and_cell_have_no_timeline.Goals as goal

pub returns : goal.returns
returns c = journal_and_cell_have_none
