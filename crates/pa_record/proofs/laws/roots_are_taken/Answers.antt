use Rattle.pa_record.proofs.Owned
use Rattle.pa_record.proofs.laws.roots_are_taken.Goals as goal

pub returns : goal.returns
returns c = Owned.roots_are_taken
