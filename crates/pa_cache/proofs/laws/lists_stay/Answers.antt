use Rattle.pa_cache.proofs.Lists.{lists_stay}
use Rattle.pa_cache.proofs.laws.lists_stay.Goals as goal

pub returns : goal.returns
returns c = lists_stay
