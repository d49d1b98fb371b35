use Rattle.pa_region.proofs.SeenJoin.{seen_append}
use Rattle.pa_region.proofs.take_laws.seen_numbers_join.Goals as goal

pub returns : goal.returns
returns c v w t = seen_append t v.seen w.seen
