use Rattle.pa_logs.proofs.Ends.{held_follows}
use Rattle.pa_logs.proofs.laws.held_follows.Goals as goal

pub returns : goal.returns
returns c = held_follows
