use Rattle.pa_verdict.proofs.Simple.{contents_are_places}
use Rattle.pa_verdict.proofs.laws.contents_are_places.Goals as goal

pub returns : goal.returns
returns c = contents_are_places
