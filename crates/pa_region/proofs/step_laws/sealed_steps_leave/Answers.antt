use Rattle.pa_region.proofs.SealStep.{sealed_leaves}
use Rattle.pa_region.proofs.step_laws.sealed_steps_leave.Goals as goal

pub returns : goal.returns
returns c t word v can = sealed_leaves t word v can
