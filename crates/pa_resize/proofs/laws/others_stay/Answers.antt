use Rattle.pa_resize.proofs.Staying.{others_stay}
use Rattle.pa_resize.proofs.laws.others_stay.Goals as goal

pub returns : goal.returns
returns c = others_stay
