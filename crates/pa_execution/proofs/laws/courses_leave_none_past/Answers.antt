use Rattle.pa_execution.proofs.Bounding.{courses_leave_none_past}
use Rattle.pa_execution.proofs.laws.courses_leave_none_past.Goals as goal

pub returns : goal.returns
returns c = courses_leave_none_past
