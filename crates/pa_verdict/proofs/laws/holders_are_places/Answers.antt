use Rattle.pa_verdict.proofs.Holding.{holders_are_places}
use Rattle.pa_verdict.proofs.laws.holders_are_places.Goals as goal

pub returns : goal.returns
returns c = holders_are_places
