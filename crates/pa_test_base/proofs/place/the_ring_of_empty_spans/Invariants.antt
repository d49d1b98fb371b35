use Rattle.std.proofs.Common.{◌+◌}
use Rattle.pa_test_base.specs.Placing.{IsYoung}
use Rattle.pa_test_base.proofs.place.the_ring_of_empty_spans.Given as goal

abbrev pub invariant-fills : goal.invariant-fills
invariant-fills g l = IsYoung l.at l.pool.entries l.placement

abbrev pub invariant-gives : goal.invariant-gives
invariant-gives g l = IsYoung (17 + l.at) l.pool-inside.entries l.placement
