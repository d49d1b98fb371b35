use Rattle.pa_region.proofs.LendBack.{entering_keeps}
use Rattle.pa_region.proofs.lend_laws.entering_keeps.Goals as goal

pub returns : goal.returns
returns c k numbers v can = entering_keeps k numbers v can
