use Rattle.pa_rules.proofs.Recorded.{records_are_lines}
use Rattle.pa_rules.proofs.laws.records_are_lines.Goals as goal

pub returns : goal.returns
returns c = records_are_lines
