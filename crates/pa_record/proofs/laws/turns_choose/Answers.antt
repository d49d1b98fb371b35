use Rattle.pa_record.proofs.Lawful
use Rattle.pa_record.proofs.laws.turns_choose.Goals as goal

pub returns : goal.returns
returns c = Lawful.turns_choose
