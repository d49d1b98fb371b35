use Rattle.pa_record.proofs.Lawful
use Rattle.pa_record.proofs.laws.journal_leaves.Goals as goal

pub returns : goal.returns
returns c = Lawful.journal_leaves
