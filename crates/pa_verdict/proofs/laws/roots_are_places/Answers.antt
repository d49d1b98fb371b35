use Rattle.pa_verdict.proofs.Journals.{roots_are_places}
use Rattle.pa_verdict.proofs.laws.roots_are_places.Goals as goal

pub returns : goal.returns
returns c = roots_are_places
