use Rattle.pa_region.proofs.AddCalls.{AddTells}
use Rattle.pa_region.proofs.region.Region.add_total.Given as goal

abbrev pub ghosts-total_as : goal.ghosts-total_as
ghosts-total_as a = record { then = λ me word after. AddTells a._word a.bytes me after }
