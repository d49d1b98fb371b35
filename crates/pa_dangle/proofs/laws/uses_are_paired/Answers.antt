use Rattle.pa_dangle.proofs.Pairing.{uses_are_paired}
use Rattle.pa_dangle.proofs.laws.uses_are_paired.Goals as goal

pub returns : goal.returns
returns c = uses_are_paired
