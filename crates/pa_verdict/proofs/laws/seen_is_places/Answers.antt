use Rattle.pa_verdict.proofs.Simple.{seen_is_places}
use Rattle.pa_verdict.proofs.laws.seen_is_places.Goals as goal

pub returns : goal.returns
returns c = seen_is_places
