use Rattle.std.proofs.Common.{◌≡◌}
use Rattle.pa_region.specs.Lending.{CanLend}
use Rattle.pa_test_root.proofs.root_scripts.play_by.Given as goal

-- the seat is one of this region, and can lend a stake
abbrev pub invariant-loop-i : goal.invariant-loop-i
invariant-loop-i g l = (l.seat.region ≡ g.N.Name.region) × CanLend l.seat.view
