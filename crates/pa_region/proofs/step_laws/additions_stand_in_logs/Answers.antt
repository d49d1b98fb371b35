use Rattle.std.proofs.Common.{refl}
use Rattle.pa_region.specs.declared.view.Entry.TheVariants.{Added}
use Rattle.pa_region.specs.Totals.{after_add}
use Rattle.pa_region.proofs.Leaving.{entry_leaves}
use Rattle.pa_region.proofs.step_laws.additions_stand_in_logs.Goals as goal

pub returns : goal.returns
returns c k bytes v can = entry_leaves (Added k bytes) v (after_add k bytes v) can.1 refl
