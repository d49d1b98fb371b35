use Rattle.pa_run_reader.proofs.OneReading.{one_bad_line}
use Rattle.pa_run_reader.proofs.laws.one_bad_line.Goals as goal

pub returns : goal.returns
returns c = one_bad_line
