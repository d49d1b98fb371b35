use Rattle.pa_region.proofs.CutLaws.{zero_set}
use Rattle.pa_region.proofs.cut_laws.a_cut_leaves_zeros.Goals as goal

pub returns : goal.returns
returns c words place word zero_at = zero_set words place word zero_at
