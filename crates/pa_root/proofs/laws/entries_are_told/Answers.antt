use Rattle.pa_root.proofs.Entries.{entries_are_told}
use Rattle.pa_root.proofs.laws.entries_are_told.Goals as goal

pub returns : goal.returns
returns c = entries_are_told
