use Rattle.pa_logs.proofs.Listing.{acts_are_theirs}
use Rattle.pa_logs.proofs.laws.acts_are_theirs.Goals as goal

pub returns : goal.returns
returns c = acts_are_theirs
