use Rattle.std.proofs.Common.{◌≡◌, ◌≤◌, ℕ, false, length, Some}
use Rattle.std.specs.Prelude.{slice_get}
use Rattle.pa_record.specs.Spans.{Span}
use Rattle.pa_place.specs.Listing.{is_class}
use Rattle.pa_place.proofs.store.Store.latest_empty.Given as goal

abbrev pub invariant-loop-listed : goal.invariant-loop-listed
invariant-loop-listed l = record {
  others : (k i : ℕ) (s : Span) → l.listed ≤ k → slice_get l.self.lists.empty.items k ≡ Some i → slice_get l.self.spans.items i ≡ Some s →
      is_class l.class s ≡ false;
  low : l.listed ≤ length l.self.lists.empty.items;
}
