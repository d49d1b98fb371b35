use Rattle.std.proofs.Common.{◌≡◌, ℕ, ◌+◌, ◌<◌, ◌≤◌, drop, length}
use Rattle.std.specs.Prelude.{slice_index_or}
use Rattle.pa_summary.specs.SummaryText.{answer_count}
use Rattle.pa_summary.proofs.counts.counts_of.Given as goal

-- with the records that are left the counts are whole
abbrev pub invariant-loop-entry : goal.invariant-loop-entry
invariant-loop-entry l = record {
  long : length l.counts ≡ 18;
  whole : (k : ℕ) → k < 18 →
      slice_index_or l.counts k 0 + answer_count (k + 1) (drop l.entry-index l.entries) ≡ answer_count (k + 1) l.entries;
  small : (k : ℕ) → k < 18 → slice_index_or l.counts k 0 ≤ l.entry-index;
}
