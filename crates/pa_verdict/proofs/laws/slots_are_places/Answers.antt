use Rattle.pa_verdict.proofs.Runs.{slots_are_places}
use Rattle.pa_verdict.proofs.laws.slots_are_places.Goals as goal

pub returns : goal.returns
returns c = slots_are_places
