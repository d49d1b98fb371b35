use Rattle.pa_region.proofs.CutLaws.{first_can_cut}
use Rattle.pa_region.proofs.cut_laws.a_new_region_can_be_cut.Goals as goal

pub returns : goal.returns
returns c words budget t start len long inside = first_can_cut words budget t start len long inside
