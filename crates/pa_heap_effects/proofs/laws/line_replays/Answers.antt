use Rattle.pa_heap_effects.proofs.Extending.{line_replays}
use Rattle.pa_heap_effects.proofs.laws.line_replays.Goals as goal

pub returns : goal.returns
returns c = line_replays
