use Rattle.std.proofs.Common.{subst}
use Rattle.std.specs.Prelude.{IfNone}
use Rattle.pa_place.specs.Out.{IsNotOut}
use Rattle.pa_place.proofs.placement.Placement.out.Goals as goal

pub returns-clause-none : goal.returns-clause-none
returns-clause-none c = subst (λ r. IfNone c.out.result (IsNotOut r c.args.slot)) c.self.view_is c.out.ensures.none
