use Rattle.pa_shelf.proofs.Starting.{no_shelf_is_new}
use Rattle.pa_shelf.proofs.laws.no_shelf_is_new.Goals as goal

pub returns : goal.returns
returns c = no_shelf_is_new
