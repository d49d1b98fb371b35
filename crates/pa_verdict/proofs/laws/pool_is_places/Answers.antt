use Rattle.pa_verdict.proofs.Pool.{pool_is_places}
use Rattle.pa_verdict.proofs.laws.pool_is_places.Goals as goal

pub returns : goal.returns
returns c = pool_is_places
