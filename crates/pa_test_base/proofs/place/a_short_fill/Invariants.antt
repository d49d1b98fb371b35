use Rattle.pa_test_base.specs.Placing.{IsYoung}
use Rattle.pa_test_base.proofs.place.a_short_fill.Given as goal

abbrev pub invariant-fills : goal.invariant-fills
invariant-fills g l = IsYoung l.at l.pool.entries l.placement
