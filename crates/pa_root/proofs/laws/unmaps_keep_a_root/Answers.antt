use Rattle.pa_root.proofs.Unmapped.{unmaps_keep}
use Rattle.pa_root.proofs.laws.unmaps_keep_a_root.Goals as goal

pub returns : goal.returns
returns c = unmaps_keep
