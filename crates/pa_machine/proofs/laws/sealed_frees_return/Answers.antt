use Rattle.pa_machine.proofs.Returning.{sealed_frees_returns}
use Rattle.pa_machine.proofs.laws.sealed_frees_return.Goals as goal

pub returns : goal.returns
returns c = sealed_frees_returns
