use Rattle.std.proofs.Common.{◌≡◌, ℕ, ◌<◌}
use Rattle.std.specs.Prelude.{◌≢◌, Some, slice_get}
use Rattle.pa_record.specs.declared.taken.SuperPage.{SuperPage}
use Rattle.pa_shelf.proofs.takes.born_in.Given as goal

-- none of the ones so far has the number
abbrev pub invariant-loop-taken : goal.invariant-loop-taken
invariant-loop-taken l = record {
  before : (i : ℕ) → i < l.taken-index → (x : SuperPage) → slice_get l.supers i ≡ Some x → x.number ≢ l.number;
}
