use Rattle.pa_record.proofs.Used
use Rattle.pa_record.proofs.laws.spans_are_used.Goals as goal

pub returns : goal.returns
returns c = Used.spans_are_used
