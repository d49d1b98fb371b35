use Rattle.pa_verdict.proofs.Exchanges.{cells_are_places}
use Rattle.pa_verdict.proofs.laws.cells_are_places.Goals as goal

pub returns : goal.returns
returns c = cells_are_places
