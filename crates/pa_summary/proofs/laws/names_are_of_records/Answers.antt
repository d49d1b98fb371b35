use Rattle.pa_summary.proofs.Names.{names_of_records}
use Rattle.pa_summary.proofs.laws.names_are_of_records.Goals as goal

pub returns : goal.returns
returns c = names_of_records
