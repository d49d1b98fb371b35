use Rattle.pa_root.proofs.Lists.{pools_are_read}
use Rattle.pa_root.proofs.laws.pools_are_read.Goals as goal

pub returns : goal.returns
returns c = pools_are_read
