use Rattle.std.proofs.Common.{◌≡◌, length, map, take}
use Rattle.pa_root.specs.Filling.{free_item}
use Rattle.pa_thread_state.proofs.giving.free_items.Given as goal

-- those before this one are in
abbrev pub invariant-loop-i : goal.invariant-loop-i
invariant-loop-i l = record {
  items : take l.i l.items ≡ map free_item (take l.i l.titles);
  many : length l.items ≡ 16;
}
