use Rattle.pa_step_order.proofs.Shaping.{shapes_have_signs}
use Rattle.pa_step_order.proofs.laws.shapes_have_signs.Goals as goal

pub returns : goal.returns
returns c = shapes_have_signs
