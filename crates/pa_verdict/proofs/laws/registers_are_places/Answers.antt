use Rattle.pa_verdict.proofs.Walks.{registers_are_places}
use Rattle.pa_verdict.proofs.laws.registers_are_places.Goals as goal

pub returns : goal.returns
returns c = registers_are_places
