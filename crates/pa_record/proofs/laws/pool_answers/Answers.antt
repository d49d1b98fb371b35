use Rattle.pa_record.proofs.PoolSteps
use Rattle.pa_record.proofs.laws.pool_answers.Goals as goal

pub returns : goal.returns
returns c = PoolSteps.pool_answers
