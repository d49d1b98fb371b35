use Rattle.pa_trace.proofs.Early.{fault_early}
use Rattle.pa_trace.proofs.laws.early_fault.Goals as goal

pub returns : goal.returns
returns c = fault_early
