use Rattle.std.proofs.Common.{refl}
use Rattle.pa_region.specs.declared.view.Entry.TheVariants.{Looked}
use Rattle.pa_region.specs.Moves.{after_look}
use Rattle.pa_region.proofs.Leaving.{entry_leaves, look_leaves}
use Rattle.pa_region.proofs.step_laws.looks_leave.Goals as goal

pub returns : goal.returns
returns c t word v has = (look_leaves t word v, entry_leaves (Looked t word) v (after_look t word v) has refl)
