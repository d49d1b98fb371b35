use Rattle.pa_record.proofs.PoolSteps
use Rattle.pa_record.proofs.laws.pool_is_sound.Goals as goal

pub returns : goal.returns
returns c = PoolSteps.pool_is_sound
