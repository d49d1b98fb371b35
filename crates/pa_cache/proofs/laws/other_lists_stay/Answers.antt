use Rattle.pa_cache.proofs.Lists.{others_stay}
use Rattle.pa_cache.proofs.laws.other_lists_stay.Goals as goal

pub returns : goal.returns
returns c = others_stay c.rows_have_bounds.ensures
