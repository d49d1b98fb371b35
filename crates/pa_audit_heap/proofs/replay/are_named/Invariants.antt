use Rattle.std.proofs.Common.{◌≡◌, map, take}
use Rattle.pa_record.specs.Spans.{name_of}
use Rattle.pa_record.specs.Root.{names}
use Rattle.pa_audit_heap.proofs.replay.are_named.Given as goal

abbrev pub invariant-loop-at : goal.invariant-loop-at
invariant-loop-at l = take l.at (map name_of l.titles) ≡ take l.at (names l.slots)
