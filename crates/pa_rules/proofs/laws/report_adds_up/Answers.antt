use Rattle.pa_rules.proofs.Reported.{report_adds_up}
use Rattle.pa_rules.proofs.laws.report_adds_up.Goals as goal

pub returns : goal.returns
returns c = report_adds_up
