use Rattle.std.proofs.Common.{◌≡◌, ◌-◌, ◌<◌, ◌≤◌, ℕ, true, false, length, Some}
use Rattle.std.specs.Prelude.{slice_get}
use Rattle.pa_record.specs.Spans.{Span}
use Rattle.pa_place.specs.Order.{starts_after}
use Rattle.pa_place.proofs.scans.count_up_to.Given as goal

abbrev pub invariant-search : goal.invariant-search
invariant-search l = record {
  before : (i : ℕ) (s : Span) → i < l.low → slice_get l.spans i ≡ Some s → starts_after l.name s ≡ false;
  after : (i : ℕ) (s : Span) → l.high ≤ i → slice_get l.spans i ≡ Some s → starts_after l.name s ≡ true;
  low : l.low ≤ l.high;
  high : l.high ≤ length l.spans;
}

abbrev pub decreases-search : goal.decreases-search
decreases-search l = l.high - l.low
