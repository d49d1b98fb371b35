use Rattle.std.proofs.Common.{◌≤◌, length}
use Rattle.pa_io.specs.Moves.{HasWritten}
use Rattle.pa_test_base.proofs.sources.write_all.Given as goal

-- the sink took what comes before the rest, and its count of faults didn't fall
abbrev pub invariant-loop-rest : goal.invariant-loop-rest
invariant-loop-rest g l = HasWritten (g.K.Sink.written l.initial.sink) (g.K.Sink.written l.sink) l.all l.rest ×
    (g.K.Sink.faults l.initial.sink ≤ g.K.Sink.faults l.sink)

abbrev pub decreases-loop-rest : goal.decreases-loop-rest
decreases-loop-rest g l = length l.rest
