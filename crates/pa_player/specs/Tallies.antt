-- The tallies of the partitions.
use Rattle.std.specs.Prelude.{◌≡◌, ℕ, ◌<◌, List, length, slice_index_or}
use Rattle.pa_record.specs.declared.report.Tally.{Tally}
use Rattle.pa_trace.specs.Limits.{most_partitions}
use Rattle.pa_rules.specs.Lists.{no_tally}

-- the tally of partition q, with no slots and no bytes past the last one
abbrev pub tally_at : List Tally → ℕ → Tally
tally_at tallies q = slice_index_or tallies q no_tally

-- the tallies of all four partitions are empty
pub record IsNone (tallies : List Tally) : Type 0 where
  pub four : length tallies ≡ most_partitions
  pub none : (q : ℕ) → q < most_partitions → tally_at tallies q ≡ no_tally
