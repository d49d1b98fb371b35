use Rattle.pa_rules.proofs.Numbering.{lines_differ}
use Rattle.pa_rules.proofs.laws.lines_differ.Goals as goal

pub returns : goal.returns
returns c = lines_differ
