use Rattle.pa_slot.proofs.Links.{links_stay}
use Rattle.pa_link.proofs.laws.links_stay.Goals as goal

pub returns : goal.returns
returns c = links_stay
