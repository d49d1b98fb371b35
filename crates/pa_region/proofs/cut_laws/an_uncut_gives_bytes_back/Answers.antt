use Rattle.pa_region.proofs.CutLaws.{uncut_gives_back, cut_again}
use Rattle.pa_region.proofs.cut_laws.an_uncut_gives_bytes_back.Goals as goal

pub returns : goal.returns
returns c = (λ t v b n covers later. (uncut_gives_back t v).0 b n covers later, λ t v b n far. (uncut_gives_back t v).1 b n far, cut_again)
