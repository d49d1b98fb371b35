use Rattle.pa_region.proofs.JoinLists.{beginnings_order, beginning_whole}
use Rattle.pa_region.proofs.take_laws.beginnings_are_ordered.Goals as goal

pub returns : goal.returns
returns c = (beginnings_order, beginning_whole)
