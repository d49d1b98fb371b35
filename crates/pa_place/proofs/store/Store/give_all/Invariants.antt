use Rattle.std.proofs.Common.{◌≡◌, ◌≢◌, ◌+◌, ◌*◌, ◌≤◌, drop, map, vec_len}
use Rattle.std.specs.Prelude.{All, AllPairs}
use Rattle.pa_record.specs.Spans.{name_of}
use Rattle.pa_record.specs.Root.{IsOut, all_returned, empties}
use Rattle.pa_record.specs.Sound.{IsSound}
use Rattle.pa_place.specs.Order.{IsOrdered}
use Rattle.pa_place.specs.Store.{root_of, IsFiled}
use Rattle.pa_place.proofs.store.Store.give_all.Given as goal

abbrev pub invariant-loop-title : goal.invariant-loop-title
invariant-loop-title l = record {
  left : all_returned (map name_of (drop l.title-index l.titles)) (root_of l.self) ≡ all_returned (map name_of l.titles)
      (root_of l.initial.self);
  sound : IsSound (root_of l.self);
  ordered : IsOrdered (root_of l.self);
  filed : IsFiled l.self;
  settled : empties (root_of l.self) ≤ 16;
  out : All (IsOut (root_of l.self)) (map name_of (drop l.title-index l.titles));
  once : AllPairs ◌≢◌ (map name_of (drop l.title-index l.titles));
  turn : l.self.turn ≤ l.initial.self.turn + 2 * l.title-index;
  many : vec_len l.self.spans ≡ vec_len l.initial.self.spans;
}
