use Rattle.pa_totals.proofs.Settling.{leaves_settle}
use Rattle.pa_totals.proofs.laws.settlings_leave.Goals as goal

pub returns : goal.returns
returns c p o v can = leaves_settle c.additions_stand_in_logs.ensures p o v can
