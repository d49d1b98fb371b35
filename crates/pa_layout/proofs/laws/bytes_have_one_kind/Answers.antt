use Rattle.pa_layout.proofs.Intervals.{the_interval}
use Rattle.pa_layout.proofs.laws.bytes_have_one_kind.Goals as goal

pub returns : goal.returns
returns c = the_interval
