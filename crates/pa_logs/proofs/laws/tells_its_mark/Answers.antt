use Rattle.pa_logs.proofs.Marks.{tells_its_mark}
use Rattle.pa_logs.proofs.laws.tells_its_mark.Goals as goal

pub returns : goal.returns
returns c = tells_its_mark
