use Rattle.pa_record.proofs.Lawful
use Rattle.pa_record.proofs.laws.entry_is_one.Goals as goal

pub returns : goal.returns
returns c = Lawful.entry_is_one
