use Rattle.pa_root.proofs.Giving.{gives_keep}
use Rattle.pa_root.proofs.laws.gives_keep_a_root.Goals as goal

pub returns : goal.returns
returns c = gives_keep
