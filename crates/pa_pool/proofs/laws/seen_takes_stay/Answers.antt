use Rattle.pa_pool.proofs.Gave.{seen_stays}
use Rattle.pa_pool.proofs.laws.seen_takes_stay.Goals as goal

pub returns : goal.returns
returns c = seen_stays
