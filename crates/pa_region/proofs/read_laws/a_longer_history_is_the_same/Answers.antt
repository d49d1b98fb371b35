use Rattle.pa_region.proofs.Standing.{longer_same}
use Rattle.pa_region.proofs.read_laws.a_longer_history_is_the_same.Goals as goal

pub returns : goal.returns
returns c later history k within = longer_same later history k within
