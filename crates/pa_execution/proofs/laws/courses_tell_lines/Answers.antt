use Rattle.pa_execution.proofs.Lining.{courses_tell_lines}
use Rattle.pa_execution.proofs.laws.courses_tell_lines.Goals as goal

pub returns : goal.returns
returns c = courses_tell_lines
