use Rattle.std.proofs.Common.{◌≡◌, ◌-◌, ◌<◌, ◌≤◌, ℕ, length, Some}
use Rattle.std.specs.Prelude.{slice_get}
use Rattle.pa_record.specs.Spans.{Span}
use Rattle.pa_place.proofs.lists.count_before.Given as goal

abbrev pub invariant-search : goal.invariant-search
invariant-search l = record {
  before : (k i : ℕ) (s : Span) → k < l.low → slice_get l.list k ≡ Some i → slice_get l.spans i ≡ Some s → s.turn < l.turn;
  after : (k i : ℕ) (s : Span) → l.high ≤ k → slice_get l.list k ≡ Some i → slice_get l.spans i ≡ Some s → l.turn ≤ s.turn;
  low : l.low ≤ l.high;
  high : l.high ≤ length l.list;
}

abbrev pub decreases-search : goal.decreases-search
decreases-search l = l.high - l.low
