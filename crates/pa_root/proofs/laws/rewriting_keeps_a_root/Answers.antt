use Rattle.pa_root.proofs.Rewriting.{rewriting_keeps}
use Rattle.pa_root.proofs.laws.rewriting_keeps_a_root.Goals as goal

pub returns : goal.returns
returns c = rewriting_keeps
