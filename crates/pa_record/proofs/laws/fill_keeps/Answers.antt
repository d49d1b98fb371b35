use Rattle.pa_record.proofs.Lawful
use Rattle.pa_record.proofs.laws.fill_keeps.Goals as goal

pub returns : goal.returns
returns c = Lawful.fill_keeps
