use Rattle.pa_region.specs.Cuts.{after_uncut}
use Rattle.pa_region.proofs.Writing.{Leaves}
use Rattle.pa_region.proofs.region.Region.uncut.Given as goal

abbrev pub ghosts-title_as : goal.ghosts-title_as
ghosts-title_as a = record { then = λ me word after. Leaves (after_uncut a._title me.0) me after }
