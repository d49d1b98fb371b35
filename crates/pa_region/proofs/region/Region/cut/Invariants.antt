use Rattle.std.specs.Prelude.{◌≡◌}
use Rattle.pa_region.specs.Views.{seen_of}
use Rattle.pa_region.specs.Cuts.{titled}
use Rattle.pa_region.proofs.Writing.{Leaves}
use Rattle.pa_region.proofs.region.Region.cut.Given as goal

abbrev pub ghosts-title_as : goal.ghosts-title_as
ghosts-title_as a = record { then = λ me word after. Leaves (titled a._title me.0) me after × (seen_of me.0 a._title ≡ 0) }
