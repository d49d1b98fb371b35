use Rattle.pa_root.proofs.Seeing.{seeing_more_keeps}
use Rattle.pa_root.proofs.laws.seeing_more_keeps_a_root.Goals as goal

pub returns : goal.returns
returns c = seeing_more_keeps
