use Rattle.std.proofs.Common.{◌≡◌}
use Rattle.pa_pool.specs.Calls.{HasSeenTake, IsNoteOf}
use Rattle.pa_test_region.proofs.PoolParts.{some_of, comes_back}
use Rattle.pa_test_region.proofs.pool.take.Goals as goal

pub returns-clause-back : goal.returns-clause-back
returns-clause-back g c =
    some_of c.take.result c.ok.result (λ r. (r.2.region ≡ g.N.Name.region) × IsNoteOf r.1 c.args.count r.0 r.2.view c.take.new.self)
    (λ r. HasSeenTake 1 r.0 r.1 c.args.count c.take.new.seat.view) _ c.ok.ensures.value
    c.take.ensures.note c.take.ensures.seen
    (λ r note seen. (note.0, comes_back 1 r.1 c.args.count r.0 c.take.new.seat.view r.2.view c.take.new.self seen note.1))
