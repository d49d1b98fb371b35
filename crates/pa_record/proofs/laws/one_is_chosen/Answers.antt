use Rattle.pa_record.proofs.Chosen
use Rattle.pa_record.proofs.laws.one_is_chosen.Goals as goal

pub returns : goal.returns
returns c = Chosen.one_is_chosen
