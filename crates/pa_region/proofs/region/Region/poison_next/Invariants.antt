use Rattle.pa_region.specs.Stores.{after_poison}
use Rattle.pa_region.proofs.Writing.{Leaves}
use Rattle.pa_region.proofs.region.Region.poison_next.Given as goal

abbrev pub ghosts-poison_as : goal.ghosts-poison_as
ghosts-poison_as a = record { then = λ me word after. Leaves (after_poison a._title a._place me.0) me after }
