use Rattle.pa_logs.proofs.Listing.{lines_have_theirs}
use Rattle.pa_logs.proofs.laws.lines_have_theirs.Goals as goal

pub returns : goal.returns
returns c = lines_have_theirs
