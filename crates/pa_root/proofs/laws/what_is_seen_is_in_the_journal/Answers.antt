use Rattle.pa_root.proofs.Giving.{seen_is_in_journal}
use Rattle.pa_root.proofs.laws.what_is_seen_is_in_the_journal.Goals as goal

pub returns : goal.returns
returns c = seen_is_in_journal
