use Rattle.pa_logs.proofs.Viewing.{seen_follows}
use Rattle.pa_logs.proofs.laws.seen_follows.Goals as goal

pub returns : goal.returns
returns c = seen_follows
