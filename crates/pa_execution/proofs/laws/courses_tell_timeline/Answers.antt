use Rattle.pa_execution.proofs.Timing.{courses_tell_timeline}
use Rattle.pa_execution.proofs.laws.courses_tell_timeline.Goals as goal

pub returns : goal.returns
returns c = courses_tell_timeline
