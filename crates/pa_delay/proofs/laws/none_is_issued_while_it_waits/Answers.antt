use Rattle.pa_delay.proofs.Waits.{none_is_issued_while_it_waits}
use Rattle.pa_delay.proofs.laws.none_is_issued_while_it_waits.Goals as goal

pub returns : goal.returns
returns c = none_is_issued_while_it_waits
