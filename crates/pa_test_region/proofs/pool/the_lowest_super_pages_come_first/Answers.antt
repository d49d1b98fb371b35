use Rattle.std.proofs.Common.{ap}
use Rattle.pa_region.specs.Shares.{Share}
use Rattle.pa_test_region.proofs.PoolParts.{others_lend}
use Rattle.pa_test_region.proofs.pool.the_lowest_super_pages_come_first.Goals as goal

pub play-played-requires-clause-lender : goal.play-played-requires-clause-lender
play-played-requires-clause-lender g c =
    others_lend c.seat-others.result.view c.hand.result.view c.in_ok-region.seat.view
    (ap (λ (s : Share). s.view) c.seat-others.ensures.same) c.hand.ensures.given c.in_ok-region.ensures.view
