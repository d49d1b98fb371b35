use Rattle.pa_verdict.proofs.Simple.{lines_are_places}
use Rattle.pa_verdict.proofs.laws.lines_are_places.Goals as goal

pub returns : goal.returns
returns c = lines_are_places
