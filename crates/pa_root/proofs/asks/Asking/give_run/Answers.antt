use Rattle.pa_region.proofs.LendBack.{lends_again}
use Rattle.pa_root.proofs.BringingBack.{given_is}
use Rattle.pa_root.proofs.asks.Asking.give_run.Goals as goal

pub returns-clause-again : goal.returns-clause-again
returns-clause-again g c =
    (lends_again c.give.new.seat.view c.show_seen.new.from.view (c.show_seen.ensures.shown.giver 0).keeps c.give.ensures.again).0

pub returns-clause-gave : goal.returns-clause-gave
returns-clause-gave g c first count comes =
    given_is c.args.self.now.line c.args.partition c.args.taken first count c.in-Ok.index c.args.self.now.seat.now c.give.new.seat
    c.show_seen.new.from.view
    c.args.root.now.view c.show_seen.new.to.view c.args.pool.now c.give.new.self
    (c.in-Ok.ensures.gave first count comes) c.requires.lender c.aware.ensures.aware
    c.aware-2.ensures.aware c.kept.ensures c.show_seen.ensures.shown
