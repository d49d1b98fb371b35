use Rattle.pa_shelf.proofs.CutOut.{cuts_keep_shown}
use Rattle.pa_shelf.proofs.laws.cuts_keep_shown.Goals as goal

pub returns : goal.returns
returns c = cuts_keep_shown
