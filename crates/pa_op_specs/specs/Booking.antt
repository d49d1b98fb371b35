-- What a worker booked to the totals words: the bytes that were added to a word already, and those that it still owes to it. So a
-- settling leaves it as it is.
use Rattle.std.specs.Prelude.{◌≡◌, ℕ, ◌+◌, ◌*◌, ◌<◌, List}
use Rattle.std.specs.List.{sum_by}
use Rattle.pa_slot.specs.declared.word.SlotName.{SlotName}
use Rattle.pa_trace.specs.Limits.{most_partitions}
use Rattle.pa_rules.specs.declared.played.Played.{Played}
use Rattle.pa_rules.specs.Played.{marks_of}
use Rattle.pa_legal.specs.Tallies.{weight_of, bytes_of}
use Rattle.pa_region.specs.Takes.{log_of}
use Rattle.pa_region.specs.Totals.{is_of_kind, added_to}
use Rattle.pa_totals.specs.Settled.{owed_to, owed_at}
use Rattle.pa_op_specs.specs.Workers.{WorkerValue}

-- the bytes that a worker booked to word number 4 p + q, which is that of partition p and kind q:
-- those that are owed and those that its log added
abbrev pub booked : WorkerValue → ℕ → ℕ → ℕ
booked w p q = owed_to q (owed_at w.owed p) + sum_by (added_to (4 * p + q)) (log_of w.stock.thread w.stock.view)

-- For each partition and each of the four kinds it booked the bytes of the slots on which these records made a step of that kind, with
-- these as the partition and the length of each slot.
abbrev pub BooksBy : (home size : SlotName → ℕ) → List Played → (before after : WorkerValue) → Type 0
BooksBy home size xs before after =
    (p q : ℕ) → p < most_partitions → q < 4 →
    booked after p q ≡ booked before p q + weight_of (is_of_kind q) (bytes_of home size p) (marks_of xs)
