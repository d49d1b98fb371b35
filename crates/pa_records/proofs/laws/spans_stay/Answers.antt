use Rattle.pa_records.proofs.Keeping.{spans_stay}
use Rattle.pa_records.proofs.laws.spans_stay.Goals as goal

pub returns : goal.returns
returns c = spans_stay
