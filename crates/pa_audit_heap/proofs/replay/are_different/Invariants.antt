use Rattle.std.proofs.Common.{◌≢◌, take}
use Rattle.std.specs.Prelude.{AllPairs}
use Rattle.pa_record.specs.Root.{names}
use Rattle.pa_audit_heap.proofs.replay.are_different.Given as goal

abbrev pub invariant-loop-at : goal.invariant-loop-at
invariant-loop-at l = AllPairs ◌≢◌ (take l.at (names l.slots))
