use Rattle.pa_audit_input.proofs.Parting.{no_audit_fault, one_audit_fault}
use Rattle.pa_audit_input.proofs.laws.one_audit_answer.Goals as goal

pub returns-clause-none : goal.returns-clause-none
returns-clause-none c = no_audit_fault

pub returns-clause-one : goal.returns-clause-one
returns-clause-one c = one_audit_fault
