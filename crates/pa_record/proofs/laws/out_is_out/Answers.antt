use Rattle.pa_record.proofs.Lawful
use Rattle.pa_record.proofs.laws.out_is_out.Goals as goal

pub returns : goal.returns
returns c = Lawful.out_is_out
