use Rattle.pa_execution.proofs.Listing.{courses_tell_lists}
use Rattle.pa_execution.proofs.laws.courses_tell_lists.Goals as goal

pub returns : goal.returns
returns c = courses_tell_lists
