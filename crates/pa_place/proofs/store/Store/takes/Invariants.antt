use Rattle.std.proofs.Common.{◌≡◌, ◌++◌, ◌+◌, ◌-◌, ◌≤◌, length, vec_len}
use Rattle.std.specs.Vec.{vec_capacity}
use Rattle.pa_record.specs.Root.{takes}
use Rattle.pa_place.specs.Filed.{HasRoomToList}
use Rattle.arrayvec.specs.ArrayVec.{array_vec_len}
use Rattle.pa_place.specs.Made.{takes_cut}
use Rattle.pa_place.specs.Order.{IsOrdered}
use Rattle.pa_place.specs.Store.{root_of, IsFiled, IsReady, HasBlanks}
use Rattle.pa_place.proofs.Filling.{with_taken}
use Rattle.pa_place.proofs.store.Store.takes.Given as goal

abbrev pub invariant-loop-taken : goal.invariant-loop-taken
invariant-loop-taken l = record {
  filled : takes l.class l.want (root_of l.initial.self) ≡ with_taken l.titles.items (takes l.class (l.want - l._taken) (root_of l.self));
  cut : takes_cut l.class l.want (root_of l.initial.self) ≡ l.made.items ++ takes_cut l.class (l.want - l._taken) (root_of l.self);
  told : array_vec_len l.made ≤ l._taken;
  ready : IsReady (root_of l.self);
  ordered : IsOrdered (root_of l.self);
  filed : IsFiled l.self;
  lists : HasRoomToList l.class (vec_len l.initial.self.spans + l.want) l.self.lists;
  some : length l.titles.items ≤ l._taken;
  few : l._taken ≤ l.want;
  turn : l.self.turn ≤ l.initial.self.turn + l._taken;
  blanks : HasBlanks l.class (l.want - l._taken) l.blanks.items;
  many : vec_len l.self.spans ≤ vec_len l.initial.self.spans + l._taken;
  room : vec_capacity l.self.spans ≡ vec_capacity l.initial.self.spans;
}
