use Rattle.std.proofs.Common.{take}
use Rattle.std.specs.Prelude.{Contains}
use Rattle.pa_record.specs.Root.{names}
use Rattle.pa_audit_heap.proofs.replay.stands_before.Given as goal

abbrev pub invariant-loop-at : goal.invariant-loop-at
invariant-loop-at l = Contains (take l.at (names l.slots)) l.name → ⊥
