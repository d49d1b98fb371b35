use Rattle.std.proofs.Common.{◌-◌}
use Rattle.pa_player.proofs.Purging.{AreGivenTo}
use Rattle.pa_player.proofs.purge.Player+Told+O.give_all.Given as goal

-- the lists before this one went back
abbrev pub invariant-lists : goal.invariant-lists
invariant-lists g l = AreGivenTo l.thread l.partition l.start l.at l.fn.self l.self l.slots

abbrev pub decreases-lists : goal.decreases-lists
decreases-lists g l = l.end - l.at
