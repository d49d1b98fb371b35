use Rattle.pa_root.proofs.Purging.{purges_keep_slots}
use Rattle.pa_root.proofs.laws.purges_keep_slots.Goals as goal

pub returns : goal.returns
returns c = purges_keep_slots
