use Rattle.pa_verdict.proofs.Simple.{report_is_places}
use Rattle.pa_verdict.proofs.laws.report_is_places.Goals as goal

pub returns : goal.returns
returns c = report_is_places
