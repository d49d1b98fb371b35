use Rattle.pa_root.proofs.Turning.{turns_are_few}
use Rattle.pa_root.proofs.laws.turns_are_few.Goals as goal

pub returns : goal.returns
returns c = turns_are_few
