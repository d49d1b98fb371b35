use Rattle.pa_region.proofs.OneTitle.{unnamed_new}
use Rattle.pa_region.proofs.laws.an_unnamed_title_is_new.Goals as goal

pub returns : goal.returns
returns c words views t k held none = unnamed_new words views t k held none
