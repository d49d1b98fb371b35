use Rattle.pa_region.specs.Shares.{SealedTells}
use Rattle.pa_region.proofs.region.Region.count_sealed.Given as goal

abbrev pub ghosts-add_as : goal.ghosts-add_as
ghosts-add_as a = record { then = λ me word after. SealedTells a._title me word after }
