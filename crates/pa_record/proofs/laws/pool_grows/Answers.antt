use Rattle.pa_record.proofs.PoolSteps
use Rattle.pa_record.proofs.laws.pool_grows.Goals as goal

pub returns : goal.returns
returns c = PoolSteps.pool_grows
