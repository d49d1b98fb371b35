use Rattle.pa_logs.proofs.Reporting.{report_follows}
use Rattle.pa_logs.proofs.laws.report_follows.Goals as goal

pub returns : goal.returns
returns c = report_follows
