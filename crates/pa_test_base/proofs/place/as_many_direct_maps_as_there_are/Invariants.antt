use Rattle.pa_test_base.specs.Placing.{HasOnlyMaps}
use Rattle.pa_test_base.proofs.place.as_many_direct_maps_as_there_are.Given as goal

abbrev pub invariant-maps : goal.invariant-maps
invariant-maps g l = HasOnlyMaps l.at l.pool l.placement
