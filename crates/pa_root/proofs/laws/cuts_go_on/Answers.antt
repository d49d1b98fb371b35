use Rattle.pa_root.proofs.Rows.{cuts_go_on}
use Rattle.pa_root.proofs.laws.cuts_go_on.Goals as goal

pub returns : goal.returns
returns c = cuts_go_on
