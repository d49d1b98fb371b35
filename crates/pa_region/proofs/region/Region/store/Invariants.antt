use Rattle.pa_region.specs.Stores.{after_store, StoreTells}
use Rattle.pa_region.proofs.Writing.{Leaves}
use Rattle.pa_region.proofs.region.Region.store.Given as goal

abbrev pub ghosts-store_as : goal.ghosts-store_as
ghosts-store_as a = record { then = λ me word after. Leaves (after_store a._at a.value me.0) me after × StoreTells a._at me.0 after.0 }
