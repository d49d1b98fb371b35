use Rattle.pa_region.specs.Hands.{united, spent_of}
use Rattle.pa_region.proofs.Awareness.{Stays}
use Rattle.pa_region.proofs.region.Region.take.Given as goal

abbrev pub ghosts-take_as : goal.ghosts-take_as
ghosts-take_as a = record { both = united; spent = spent_of a.other.me.0 }

abbrev pub ghosts-tell_as : goal.ghosts-tell_as
ghosts-tell_as a = record { then = λ me word after. Stays me after }
