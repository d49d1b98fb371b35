use Rattle.pa_region.proofs.Opens.{opens}
use Rattle.pa_region.proofs.laws.a_new_region_meets_the_rule.Goals as goal

pub returns : goal.returns
returns c words budget few enough = opens words budget few enough
