use Rattle.pa_totals.proofs.AllSettled.{leaves_all}
use Rattle.pa_totals.proofs.laws.whole_settlings_leave.Goals as goal

pub returns : goal.returns
returns c owed v can = leaves_all c.additions_stand_in_logs.ensures owed v can
