use Rattle.pa_region.proofs.Leaving.{count_leaves}
use Rattle.pa_region.proofs.step_laws.counted_steps_leave.Goals as goal

pub returns : goal.returns
returns c step t word v can = count_leaves step t word v can
