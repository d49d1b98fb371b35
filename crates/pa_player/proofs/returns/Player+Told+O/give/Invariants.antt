use Rattle.std.proofs.Common.{◌-◌}
use Rattle.pa_player.proofs.Batching.{IsGivenSo}
use Rattle.pa_player.proofs.returns.Player+Told+O.give.Given as goal

-- the slots up to a place went back
abbrev pub invariant-batches : goal.invariant-batches
invariant-batches g l = IsGivenSo l.partition l.at l.keep l.from l.fn.self l.self

abbrev pub decreases-batches : goal.decreases-batches
decreases-batches g l = l.count - l.from
