use Rattle.pa_resize.proofs.Sparing.{spare_stays_free}
use Rattle.pa_resize.proofs.laws.spare_stays_free.Goals as goal

pub returns : goal.returns
returns c = spare_stays_free
