use Rattle.pa_link.proofs.Chains.{listed}
use Rattle.pa_link.proofs.laws.chains_are_listed.Goals as goal

pub returns : goal.returns
returns c = listed
