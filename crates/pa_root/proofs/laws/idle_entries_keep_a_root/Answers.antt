use Rattle.pa_root.proofs.Seeing.{idle_entries_keep}
use Rattle.pa_root.proofs.laws.idle_entries_keep_a_root.Goals as goal

pub returns : goal.returns
returns c = idle_entries_keep
