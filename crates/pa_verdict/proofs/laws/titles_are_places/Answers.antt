use Rattle.pa_verdict.proofs.Titles.{titles_are_places}
use Rattle.pa_verdict.proofs.laws.titles_are_places.Goals as goal

pub returns : goal.returns
returns c = titles_are_places
