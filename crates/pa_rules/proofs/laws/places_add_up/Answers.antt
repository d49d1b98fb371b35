use Rattle.pa_rules.proofs.FourPlaces.{places_add_up}
use Rattle.pa_rules.proofs.laws.places_add_up.Goals as goal

pub returns : goal.returns
returns c = places_add_up
