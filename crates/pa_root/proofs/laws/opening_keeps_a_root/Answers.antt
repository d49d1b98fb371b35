use Rattle.pa_root.proofs.Opening.{opening_keeps}
use Rattle.pa_root.proofs.laws.opening_keeps_a_root.Goals as goal

pub returns : goal.returns
returns c = opening_keeps
