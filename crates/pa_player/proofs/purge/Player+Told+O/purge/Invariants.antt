use Rattle.pa_player.proofs.Partitions.{IsPurgedTo}
use Rattle.pa_player.proofs.purge.Player+Told+O.purge.Given as goal

-- the first partitions were purged
abbrev pub invariant-loop-partition : goal.invariant-loop-partition
invariant-loop-partition g l = IsPurgedTo l.thread l.partition l.fn.self l.self l.slots
