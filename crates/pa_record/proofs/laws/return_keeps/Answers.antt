use Rattle.pa_record.proofs.Lawful
use Rattle.pa_record.proofs.laws.return_keeps.Goals as goal

pub returns : goal.returns
returns c = Lawful.return_keeps
