use Rattle.pa_logs.proofs.Seating.{seats_know}
use Rattle.pa_logs.proofs.laws.seats_know.Goals as goal

pub returns : goal.returns
returns c = seats_know
