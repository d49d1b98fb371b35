use Rattle.pa_cli.proofs.Firsts.{read_fault_first}
use Rattle.pa_cli.proofs.laws.a_read_fault_comes_first.Goals as goal

pub returns : goal.returns
returns c = read_fault_first
