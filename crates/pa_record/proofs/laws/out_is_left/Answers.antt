use Rattle.pa_record.proofs.Leaving
use Rattle.pa_record.proofs.laws.out_is_left.Goals as goal

pub returns : goal.returns
returns c = Leaving.out_is_left
