use Rattle.pa_record.proofs.AddingUp
use Rattle.pa_record.proofs.laws.root_adds_up.Goals as goal

pub returns : goal.returns
returns c = AddingUp.root_adds_up
