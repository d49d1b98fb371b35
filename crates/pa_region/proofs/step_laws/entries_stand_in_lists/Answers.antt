use Rattle.pa_region.proofs.Leaving.{enter_leaves}
use Rattle.pa_region.proofs.step_laws.entries_stand_in_lists.Goals as goal

pub returns : goal.returns
returns c k numbers v can = enter_leaves k numbers v can
