use Rattle.pa_root.proofs.MapsCome.{what_comes_is_mapped}
use Rattle.pa_root.proofs.laws.a_map_that_comes_back_is_mapped.Goals as goal

pub returns : goal.returns
returns c = what_comes_is_mapped
