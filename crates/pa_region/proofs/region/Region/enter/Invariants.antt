use Rattle.pa_region.proofs.EnterStep.{EnterTells}
use Rattle.pa_region.proofs.region.Region.enter.Given as goal

abbrev pub ghosts-enter_as : goal.ghosts-enter_as
ghosts-enter_as a = record { then = λ me word after. EnterTells a._keeper a._entry.now me after }
