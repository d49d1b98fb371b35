use Rattle.std.proofs.Common.{◌+◌}
use Rattle.pa_test_base.specs.Placing.{IsYoung}
use Rattle.pa_test_base.proofs.place.slots_by_their_pages.Given as goal

abbrev pub invariant-gives : goal.invariant-gives
invariant-gives g l = IsYoung (2 + l.at) l.pool-inside.entries l.placement
