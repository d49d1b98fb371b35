use Rattle.pa_player.proofs.Phasing.{IsToldFor}
use Rattle.pa_player.proofs.phases.Player+Told+O.end_phase.Given as goal

-- the lines of the first partitions were reported
abbrev pub invariant-loop-partition : goal.invariant-loop-partition
invariant-loop-partition g l = IsToldFor l.partition l.fn.self l.self
