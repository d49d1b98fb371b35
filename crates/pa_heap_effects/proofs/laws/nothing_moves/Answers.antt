use Rattle.pa_heap_effects.proofs.Acting.{nothing_moves}
use Rattle.pa_heap_effects.proofs.laws.nothing_moves.Goals as goal

pub returns : goal.returns
returns c = nothing_moves
