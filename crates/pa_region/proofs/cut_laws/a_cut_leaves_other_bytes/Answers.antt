use Rattle.pa_region.proofs.CutLaws.{cut_leaves_others, cut_next}
use Rattle.pa_region.proofs.cut_laws.a_cut_leaves_other_bytes.Goals as goal

pub returns : goal.returns
returns c = (cut_leaves_others, cut_next)
