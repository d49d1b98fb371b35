use Rattle.pa_resize.proofs.Keeping.{moves_keep}
use Rattle.pa_resize.proofs.laws.moves_keep.Goals as goal

pub returns : goal.returns
returns c = moves_keep
