use Rattle.std.proofs.Common.{◌≡◌, length, map, take}
use Rattle.std.specs.Prelude.{All}
use Rattle.pa_record.specs.Spans.{name_of}
use Rattle.pa_record.specs.Root.{names, IsOut}
use Rattle.pa_audit_heap.proofs.replay.Replay.give.Given as goal

abbrev pub invariant-loop-slot : goal.invariant-loop-slot
invariant-loop-slot l = record {
  count : length l.titles.items ≡ l.slot-index;
  named : map name_of l.titles.items ≡ take l.slot-index (names l.slots);
  out : All (IsOut l.self.root) (take l.slot-index (names l.slots));
}
