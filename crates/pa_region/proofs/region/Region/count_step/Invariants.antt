use Rattle.pa_region.specs.Shares.{CountTells}
use Rattle.pa_region.proofs.region.Region.count_step.Given as goal

abbrev pub ghosts-add_as : goal.ghosts-add_as
ghosts-add_as a = record { then = λ me word after. CountTells a._step a._title me word after }
