use Rattle.pa_root.proofs.Taken.{fills_keep}
use Rattle.pa_root.proofs.laws.fills_keep_a_root.Goals as goal

pub returns : goal.returns
returns c = fills_keep
