-- A thread's lists of free slots in a table, and what those of each partition have together.
use Rattle.std.specs.Prelude.{◌≡◌, ℕ, ◌+◌, ◌-◌, ◌*◌, ◌<◌, ◌≤◌, List, length, slice_index_or}
use Rattle.pa_buckets.specs.Limits.{class_count, first_class}
use Rattle.pa_buckets.specs.Table.{slot_of}
use Rattle.pa_record.specs.declared.numbered.Numbered.{Numbered}
use Rattle.pa_record.specs.declared.report.Tally.{Tally}
use Rattle.pa_trace.specs.Limits.{most_partitions}
use Rattle.pa_rules.specs.Caches.{Cache, listed_slots}
use Rattle.pa_rules.specs.Report.{listed_bytes}
use Rattle.pa_rules.specs.Sizes.{class_total}

-- The index of a row's list of a class, where each row has one list for each class of the version. A thread has a row for each partition.
abbrev pub cache_place : ℕ → ℕ → ℕ → ℕ
cache_place version row class = row * class_total version + (class - first_class version)

-- the tally of no slots
abbrev pub no_tally : Tally
no_tally = record { slots = 0; bytes = 0 }

-- the tally is that of these lists, by their classes
pub record IsTallyOf (lists : ℕ → List Numbered) (tally : Tally) : Type 0 where
  pub slots : tally.slots ≡ listed_slots lists 0 class_count
  pub bytes : tally.bytes ≡ listed_bytes (λ class. length (lists class)) 0 class_count

-- there is a sum for each of four partitions, which is the tally of a thread's lists of it
pub record AreTalliesOf (cache : Cache) (sums : List Tally) : Type 0 where
  pub four : length sums ≡ most_partitions
  pub each : (p : ℕ) → p < most_partitions → IsTallyOf (cache p) (slice_index_or sums p no_tally)

-- the tally of lists after one of a class went from the first number of slots to the second
abbrev pub changed_by : Tally → ℕ → ℕ → ℕ → Tally
changed_by sum class before after = record {
  slots = sum.slots - before + after;
  bytes = sum.bytes - slot_of class * before + slot_of class * after;
}

-- The tally counts a list of this class with `before` slots, and all numbers are small enough for a change to `after` slots.
pub record HasPart (sum : Tally) (class before after : ℕ) : Type 0 where
  pub slots : before ≤ sum.slots
  pub bytes : slot_of class * before ≤ sum.bytes
  pub few : sum.slots ≤ 12240
  pub small : sum.bytes ≤ 12032409600
  pub short : before ≤ 72
  pub short_too : after ≤ 72
