use Rattle.pa_shelf.proofs.Staying.{shown_stays}
use Rattle.pa_shelf.proofs.laws.shown_stays.Goals as goal

pub returns : goal.returns
returns c = shown_stays
