use Rattle.pa_root.proofs.Ready.{roots_are_ready}
use Rattle.pa_root.proofs.laws.roots_are_ready.Goals as goal

pub returns : goal.returns
returns c = roots_are_ready
