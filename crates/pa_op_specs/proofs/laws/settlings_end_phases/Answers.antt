use Rattle.pa_op_specs.proofs.Settling.{settling_ends}
use Rattle.pa_op_specs.proofs.laws.settlings_end_phases.Goals as goal

pub returns : goal.returns
returns c w v x xs plays is stake = settling_ends c.whole_settlings_leave.ensures w v x xs plays is stake
