use Rattle.pa_link.proofs.Chains.{elsewhere}
use Rattle.pa_link.proofs.laws.links_elsewhere.Goals as goal

pub returns : goal.returns
returns c = elsewhere
