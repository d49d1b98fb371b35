use Rattle.std.proofs.Common.{◌≡◌, ◌+◌, ◌-◌, ◌≤◌, vec_len}
use Rattle.pa_record.specs.Root.{decommitted_times, purged}
use Rattle.pa_record.specs.Sound.{IsSound}
use Rattle.pa_place.specs.Order.{IsOrdered}
use Rattle.pa_place.specs.Store.{root_of, IsFiled}
use Rattle.pa_place.proofs.store.Store.purge.Given as goal

abbrev pub invariant-loop-empty : goal.invariant-loop-empty
invariant-loop-empty l = record {
  left : decommitted_times (l.empties - l._empty) (root_of l.self) ≡ purged (root_of l.initial.self);
  sound : IsSound (root_of l.self);
  ordered : IsOrdered (root_of l.self);
  filed : IsFiled l.self;
  turn : l.self.turn ≤ l.initial.self.turn + l._empty;
  few : l._empty ≤ l.empties;
  many : vec_len l.self.spans ≡ vec_len l.initial.self.spans;
}
