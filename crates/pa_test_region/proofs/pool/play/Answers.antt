use Rattle.pa_test_region.proofs.PoolParts.{stays_back}
use Rattle.pa_test_region.proofs.pool.play.Goals as goal

pub give-requires-clause-back : goal.give-requires-clause-back
give-requires-clause-back g c =
    let note = c.in_ok-one.one_note.view in
    let taken = c.in_ok-one.one in
    let first = c.in_ok-one.first in
    let second =
    stays_back 1 taken first 1 c.take.new.seat.view c.take-2.new.seat.view note c.take-2.ensures.more c.in_ok-one.ensures.back.1 in
    (first, 1, stays_back 1 taken first 1 c.take-2.new.seat.view c.find_none.new.seat.view note c.find_none.ensures.more second)

pub give-requires-2-clause-back : goal.give-requires-2-clause-back
give-requires-2-clause-back g c =
    let note = c.in_ok-two.two_note.view in
    let taken = c.in_ok-two.two in
    let first = c.in_ok-two.second in
    let none = stays_back 1 taken first 2 c.take-2.new.seat.view c.find_none.new.seat.view note c.find_none.ensures.more
    c.in_ok-two.ensures.back.1 in
    let given = stays_back 1 taken first 2 c.find_none.new.seat.view c.give.new.seat.view note c.give.ensures.more none in
    (first, 2, stays_back 1 taken first 2 c.give.new.seat.view c.take-3.new.seat.view note c.take-3.ensures.more given)
