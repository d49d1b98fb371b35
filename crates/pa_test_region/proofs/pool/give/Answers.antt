use Rattle.pa_region.specs.Lists.{list_of, IsBeginning}
use Rattle.pa_test_region.proofs.PoolParts.{begins_same}
use Rattle.pa_test_region.proofs.pool.give.Goals as goal
use Rattle.pa_lists.proofs.Tests.{either}

pub returns-clause-more : goal.returns-clause-more
returns-clause-more g c =
    either c.give.result _ _ (IsBeginning (list_of 4 c.args.seat.now.view) (list_of 4 c.give.new.seat.view)) c.give.ensures.gave
    c.give.ensures.kept
    (λ index given. (given c.requires.back.0 c.requires.back.1 c.requires.back.2).entered.1.lends.keeps.lists 4)
    (λ note kept. begins_same c.args.seat.now c.give.new.seat kept.1)
