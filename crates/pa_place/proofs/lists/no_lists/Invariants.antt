use Rattle.std.proofs.Common.{◌≡◌, ◌≤◌, ℕ, length, [], Some}
use Rattle.std.specs.Prelude.{slice_get, Vec}
use Rattle.std.specs.Vec.{vec_capacity}
use Rattle.std.specs.declared.alloc.Global.{Global}
use Rattle.pa_place.proofs.lists.no_lists.Given as goal

abbrev pub invariant-loop-class : goal.invariant-loop-class
invariant-loop-class l = record {
  room : 170 ≤ vec_capacity l.lists;
  many : length l.lists.items ≡ l._class;
  none : (class : ℕ) (list : Vec ℕ Global) → slice_get l.lists.items class ≡ Some list → list.items ≡ [];
}
