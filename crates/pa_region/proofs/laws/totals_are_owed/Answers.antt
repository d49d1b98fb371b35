use Rattle.pa_region.proofs.AddCalls.{kinds_are_owed}
use Rattle.pa_region.proofs.laws.totals_are_owed.Goals as goal

pub returns : goal.returns
returns c words views q kept small = kinds_are_owed words views q kept small
