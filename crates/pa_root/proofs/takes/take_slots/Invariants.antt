use Rattle.std.proofs.Common.{◌≡◌, ◌+◌, ◌-◌, ◌≤◌}
use Rattle.arrayvec.specs.ArrayVec.{array_vec_len}
use Rattle.pa_record.specs.Root.{Root}
use Rattle.pa_root.specs.Taking.{CanTakeSlots}
use Rattle.pa_root.proofs.SlotsTaken.{IsUnderWay}
use Rattle.pa_root.proofs.takes.take_slots.Given as goal

-- this many are taken, and the rest is still to be taken
abbrev pub invariant-loop-done : goal.invariant-loop-done
invariant-loop-done l = record {
  region : l.own.region ≡ l.initial.own.region;
  turn : l.shelf.lists.turn ≤ l.initial.shelf.lists.turn + l.done;
  many : array_vec_len l.titles ≤ l.done;
  way : (r : Root) → CanTakeSlots l.initial.own.view l.initial.shelf r →
      IsUnderWay l.class l.want (l.want - l.done) l.initial.own.view l.own.view l.shelf r l.titles.items;
}
