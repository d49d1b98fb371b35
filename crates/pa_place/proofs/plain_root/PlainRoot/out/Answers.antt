use Rattle.std.proofs.Common.{ap, subst}
use Rattle.std.specs.Prelude.{IfSome, IfNone}
use Rattle.pa_place.specs.Out.{IsOutAs, IsNotOut}
use Rattle.pa_place.specs.Roomy.{RoomyRoot}
use Rattle.pa_place.proofs.plain_root.PlainRoot.out.Goals as goal

pub returns-clause-some : goal.returns-clause-some
returns-clause-some c = subst (λ r. IfSome c.out.result (IsOutAs r c.args.slot))
    (ap (λ (z : RoomyRoot). z.root) c.self.view_is) c.out.ensures.some

pub returns-clause-none : goal.returns-clause-none
returns-clause-none c = subst (λ r. IfNone c.out.result (IsNotOut r c.args.slot))
    (ap (λ (z : RoomyRoot). z.root) c.self.view_is) c.out.ensures.none
