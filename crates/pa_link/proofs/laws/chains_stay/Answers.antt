use Rattle.pa_link.proofs.Chains.{stay}
use Rattle.pa_link.proofs.laws.chains_stay.Goals as goal

pub returns : goal.returns
returns c = stay
