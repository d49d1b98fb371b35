use Rattle.std.proofs.Common.{◌<◌, length, sym, subst}
use Rattle.pa_place.specs.CameBack.{CameBack}
use Rattle.pa_place.proofs.CameBack.{times_below}
use Rattle.pa_place.proofs.returned.Returned.put_front.Goals as goal

pub count_more-requires : goal.count_more-requires
count_more-requires c =
    times_below c.self.inside.times.items c.self.inside.list.items c.args.number 1024 c.self.invariant.1
    (subst (λ (b : CameBack). length b.items < 1024) (sym c.self.view_is) c.requires.few)
