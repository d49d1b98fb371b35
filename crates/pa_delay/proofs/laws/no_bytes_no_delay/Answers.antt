use Rattle.pa_delay.proofs.Same.{no_bytes_no_delay}
use Rattle.pa_delay.proofs.laws.no_bytes_no_delay.Goals as goal

pub returns : goal.returns
returns c = no_bytes_no_delay
