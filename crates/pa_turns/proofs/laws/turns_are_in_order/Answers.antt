use Rattle.pa_turns.proofs.Whole.{turns_are_in_order}
use Rattle.pa_turns.proofs.laws.turns_are_in_order.Goals as goal

pub returns : goal.returns
returns c = turns_are_in_order
