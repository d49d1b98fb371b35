use Rattle.pa_region.proofs.Closing.{unnamed_ends_new}
use Rattle.pa_region.proofs.laws.an_unnamed_title_ends_new.Goals as goal

pub returns : goal.returns
returns c words v t e has none = unnamed_ends_new words v t e has none
