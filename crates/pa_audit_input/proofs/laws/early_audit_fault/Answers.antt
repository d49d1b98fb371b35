use Rattle.pa_audit_input.proofs.Early.{audit_fault_early}
use Rattle.pa_audit_input.proofs.laws.early_audit_fault.Goals as goal

pub returns : goal.returns
returns c = audit_fault_early
