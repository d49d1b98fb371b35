use Rattle.pa_legal.proofs.flow.Flowing.{caches_flow}
use Rattle.pa_legal.proofs.laws.caches_flow.Goals as goal

pub returns : goal.returns
returns c = caches_flow
