use Rattle.pa_pool.proofs.RawBytes.{handed}
use Rattle.pa_pool.proofs.laws.runs_are_handed.Goals as goal

pub returns : goal.returns
returns c = handed
