use Rattle.pa_region.proofs.AddCalls.{TotalTells}
use Rattle.pa_region.proofs.region.Region.read_total.Given as goal

abbrev pub ghosts-load_as : goal.ghosts-load_as
ghosts-load_as a = record { then = λ me word after. TotalTells a._at me word after }
