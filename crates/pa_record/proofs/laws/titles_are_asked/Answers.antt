use Rattle.pa_record.proofs.Asked
use Rattle.pa_record.proofs.laws.titles_are_asked.Goals as goal

pub returns : goal.returns
returns c = Asked.titles_are_asked
