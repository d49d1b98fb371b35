use Rattle.pa_logs.proofs.Usable.{usable_follows}
use Rattle.pa_logs.proofs.laws.usable_follows.Goals as goal

pub returns : goal.returns
returns c = usable_follows
