use Rattle.pa_region.proofs.TakeLaws.{left_begins, right_begins}
use Rattle.pa_region.proofs.take_laws.beginnings_join.Goals as goal

pub returns : goal.returns
returns c v w k aware = (left_begins v w k aware, right_begins v w k aware)
