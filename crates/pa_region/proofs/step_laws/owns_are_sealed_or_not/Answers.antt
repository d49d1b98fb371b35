use Rattle.pa_region.proofs.Pieces.{sealed_or_not}
use Rattle.pa_region.proofs.step_laws.owns_are_sealed_or_not.Goals as goal

pub returns : goal.returns
returns c v t a = sealed_or_not v t a
