use Rattle.pa_shelf.proofs.OneTake.{takes_are_in_parts}
use Rattle.pa_shelf.proofs.laws.takes_are_in_parts.Goals as goal

pub returns : goal.returns
returns c = takes_are_in_parts
