use Rattle.pa_cli.proofs.Firsts.{only_refuted}
use Rattle.pa_cli.proofs.laws.only_audit_refutes.Goals as goal

pub returns : goal.returns
returns c = only_refuted
