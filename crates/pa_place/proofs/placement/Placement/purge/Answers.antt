use Rattle.std.proofs.Common.{subst}
use Rattle.pa_place.specs.Placed.{IsStep}
use Rattle.pa_place.proofs.placement.Placement.purge.Goals as goal

pub returns-clause-step : goal.returns-clause-step
returns-clause-step c = λ n. subst (λ z. IsStep n n z c.purge.new.self.root) c.self.view_is (c.purge.ensures.step n)
