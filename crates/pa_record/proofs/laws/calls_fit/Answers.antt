use Rattle.pa_record.proofs.Calling
use Rattle.pa_record.proofs.laws.calls_fit.Goals as goal

pub returns : goal.returns
returns c = Calling.calls_fit
