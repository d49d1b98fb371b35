use Rattle.std.proofs.Common.{ap}
use Rattle.pa_trace_writer.specs.Lines.{LinesSoFar}
use Rattle.pa_model.proofs.Going.{begins_new}
use Rattle.pa_model.proofs.player.begin.Goals as goal

pub returns : goal.returns
returns g c =
    begins_new _ _ c.requires.version c.requires.within c.in_ok-new.ensures (ap (λ (l : LinesSoFar). l.head) c.requires.lines)
    (ap (λ (l : LinesSoFar). l.items) c.requires.lines)
