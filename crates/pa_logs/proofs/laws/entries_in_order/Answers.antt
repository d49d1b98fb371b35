use Rattle.pa_logs.proofs.Listing.{entries_in_order}
use Rattle.pa_logs.proofs.laws.entries_in_order.Goals as goal

pub returns : goal.returns
returns c = entries_in_order
