use Rattle.std.proofs.Common.{subst}
use Rattle.pa_place.specs.Store.{root_of, IsReady}
use Rattle.pa_place.proofs.Placing.{found_ready}
use Rattle.pa_place.proofs.store.Store.take.Goals as goal

pub take_at-requires-clause-ready : goal.take_at-requires-clause-ready
take_at-requires-clause-ready c =
    let p = c.in_ok-at.ensures.place in
    subst IsReady p.2 (found_ready c.args.class (root_of c.args.self.now) p.0 c.requires.ready c.requires.real p.1).ready

pub take_at-requires-clause-usable : goal.take_at-requires-clause-usable
take_at-requires-clause-usable c =
    let p = c.in_ok-at.ensures.place in
    (p.0.span, p.3, (found_ready c.args.class (root_of c.args.self.now) p.0 c.requires.ready c.requires.real p.1).left)

pub returns-clause-lists : goal.returns-clause-lists
returns-clause-lists c = λ n h. c.take_at.ensures.lists c.args.class n (c.in_ok-at.ensures.lists n h)
