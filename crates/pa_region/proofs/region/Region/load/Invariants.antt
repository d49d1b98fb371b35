use Rattle.std.specs.Prelude.{◌≡◌}
use Rattle.pa_region.specs.Loads.{LoadTells}
use Rattle.pa_region.proofs.region.Region.load.Given as goal

abbrev pub ghosts-load_as : goal.ghosts-load_as
ghosts-load_as a = record { then = λ me word after. LoadTells a._at me.0 word after.0 × (after.1 ≡ me.1) }
