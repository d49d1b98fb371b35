use Rattle.std.proofs.Common.{ap}
use Rattle.pa_cache.proofs.Calls.{begins}
use Rattle.pa_cache.proofs.cache.Cache.new.Goals as goal

pub returns-clause-list : goal.returns-clause-list
returns-clause-list c v =
    let is = begins v c.args.class c.slot_size.result c.new.result c.slot_size.ensures.bound c.slot_size.ensures.size c.new.ensures in
    ap (λ ts. record { class = c.args.class; titles = ts }) is.titles

pub returns-clause-holds : goal.returns-clause-holds
returns-clause-holds c v =
    let is = begins v c.args.class c.slot_size.result c.new.result c.slot_size.ensures.bound c.slot_size.ensures.size c.new.ensures in
    is.has
