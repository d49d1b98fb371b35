use Rattle.pa_delay.proofs.Fits.{queues_fit}
use Rattle.pa_delay.proofs.laws.queues_fit.Goals as goal

pub returns : goal.returns
returns c = queues_fit
