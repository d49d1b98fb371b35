use Rattle.pa_record.proofs.Lawful
use Rattle.pa_record.proofs.laws.journal_grows.Goals as goal

pub returns : goal.returns
returns c = Lawful.journal_grows
