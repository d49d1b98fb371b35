use Rattle.std.proofs.Common.{◌≡◌, take}
use Rattle.pa_dense.proofs.entry.batch_of.Given as goal

-- the slots so far
abbrev pub invariant-loop-slot : goal.invariant-loop-slot
invariant-loop-slot l = l.batch ≡ take l.slot-index l.slots
