use Rattle.pa_region.proofs.Standing.{history_grows}
use Rattle.pa_region.proofs.read_laws.a_history_goes_on.Goals as goal

pub returns : goal.returns
returns c logs after t older newer adds grows old new = history_grows logs after t older newer adds grows old new
