use Rattle.pa_op_specs.proofs.Settling.{settling_ends_turn}
use Rattle.pa_op_specs.proofs.laws.settlings_end_turns.Goals as goal

pub returns : goal.returns
returns c w v x one is stake = settling_ends_turn c.whole_settlings_leave.ensures w v x one is stake
