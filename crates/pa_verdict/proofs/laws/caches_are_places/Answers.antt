use Rattle.pa_verdict.proofs.Walks.{caches_are_places}
use Rattle.pa_verdict.proofs.laws.caches_are_places.Goals as goal

pub returns : goal.returns
returns c = caches_are_places
