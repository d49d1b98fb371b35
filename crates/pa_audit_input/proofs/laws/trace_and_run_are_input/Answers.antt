use Rattle.pa_audit_input.proofs.Together.{together}
use Rattle.pa_audit_input.proofs.laws.trace_and_run_are_input.Goals as goal

pub returns : goal.returns
returns c = together
