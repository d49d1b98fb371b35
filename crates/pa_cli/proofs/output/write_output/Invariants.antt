use Rattle.std.proofs.Common.{◌≡◌, length}
use Rattle.pa_io.specs.Moves.{HasWritten}
use Rattle.pa_cli.proofs.output.write_output.Given as goal

-- the sink took what is before the rest, and had no fault
abbrev pub invariant-loop-rest : goal.invariant-loop-rest
invariant-loop-rest g l =
    HasWritten (g.K.Sink.written l.initial.sink) (g.K.Sink.written l.sink) l.text l.rest
    × (g.K.Sink.faults l.sink ≡ g.K.Sink.faults l.initial.sink)

abbrev pub decreases-loop-rest : goal.decreases-loop-rest
decreases-loop-rest g l = length l.rest
