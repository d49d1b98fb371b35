-- A line of the report, from what the workers counted at the end of its phase, from the totals words, and from the census of its root;
-- and its cached slots, from the workers' lists.
use Rattle.std.specs.Prelude.{◌≡◌, ℕ, zero, suc, ◌+◌, ◌-◌, ◌*◌, List, length, Contains}
use Rattle.pa_buckets.specs.Limits.{class_count}
use Rattle.pa_trace.specs.declared.script.Trace.{Trace}
use Rattle.pa_record.specs.declared.report.ReportLine.{ReportLine}
use Rattle.pa_record.specs.declared.report.Tally.{Tally}
use Rattle.pa_region.specs.declared.view.View.{View}
use Rattle.pa_region.specs.Lists.{list_of}
use Rattle.pa_rules.specs.Caches.{listed_slots}
use Rattle.pa_rules.specs.Report.{listed_bytes, census_of}
use Rattle.pa_rules.specs.Told.{Told}
use Rattle.pa_logs.specs.Said.{IsCensusBy, IsLineSaid, ListsSay}
use Rattle.pa_totals.specs.Settled.{added_in}
use Rattle.pa_cells.specs.Cells.{Exchange}
use Rattle.pa_op_specs.specs.declared.counts.Count.{Count}
use Rattle.pa_op_specs.specs.Counts.{counted_in}
use Rattle.pa_op_specs.specs.Stocks.{listed_in}
use Rattle.pa_op_specs.specs.Workers.{WorkerValue}
use Rattle.pa_execution.specs.Turns.{Manner, last_turn}
use Rattle.pa_execution.specs.Courses.{Course}
use Rattle.pa_execution.specs.Merged.{told_in, told_by_turns, phase_seats}
use Rattle.pa_execution.specs.Telling.{IsWholeRun, IsWholeRunBy}

-- the sum over the threads below this number
abbrev pub sum_over : (ℕ → ℕ) → ℕ → ℕ
sum_over f zero = 0
sum_over f (suc k) = f k + sum_over f k

-- The tally is what went into partition p minus what went out of it: the slots as these workers counted them, the bytes as they were
-- added to the partition's totals words of kinds i and j, by the logs of a seat.
pub record IsLeftOf (into out : Count → ℕ) (i j p threads : ℕ) (workers : ℕ → WorkerValue) (seat : View) (tally : Tally) : Type 0 where
  pub slots : tally.slots ≡ sum_over (λ k. into (counted_in (workers k).counts p)) threads
      - sum_over (λ k. out (counted_in (workers k).counts p)) threads
  pub bytes : tally.bytes ≡ added_in seat (4 * p + i) - added_in seat (4 * p + j)

-- the tally of partition p's live slots is what was issued there less what was freed
abbrev pub IsLiveOf : (p threads : ℕ) → (ℕ → WorkerValue) → View → Tally → Type 0
IsLiveOf p threads workers seat tally =
    IsLeftOf (λ (n : Count). n.issued) (λ (n : Count). n.freed) 0 1 p threads workers seat tally

-- the tally of partition p's quarantined slots is what entered its quarantine less what left it
abbrev pub IsQuarantinedOf : (p threads : ℕ) → (ℕ → WorkerValue) → View → Tally → Type 0
IsQuarantinedOf p threads workers seat tally =
    IsLeftOf (λ (n : Count). n.entered) (λ (n : Count). n.left) 2 3 p threads workers seat tally

-- The tally is what the lists of these workers have of partition p.
pub record IsCachedBy (p threads : ℕ) (workers : ℕ → WorkerValue) (tally : Tally) : Type 0 where
  pub slots : tally.slots ≡ sum_over (λ k. listed_slots (listed_in (workers k).stock p) 0 class_count) threads
  pub bytes : tally.bytes ≡ sum_over (λ k. listed_bytes (λ class. length (listed_in (workers k).stock p class)) 0 class_count) threads

-- The line, but for its cached slots, agrees with the workers and the main seat, as they were at the end of its phase, and with the root
-- of its partition.
pub record IsLineBy (way : Manner) (t : Trace) (c : Course) (v : View) (l : ReportLine) : Type 0 where
  pub live : IsLiveOf l.partition t.threads (c.ends (last_turn way t l.phase)) (phase_seats way t c l.phase) l.live
  pub quarantined : IsQuarantinedOf l.partition t.threads (c.ends (last_turn way t l.phase)) (phase_seats way t c l.phase) l.quarantined
  pub root : IsCensusBy (list_of l.partition (phase_seats way t c l.phase)) (list_of 4 v) (census_of l)

-- A line of the report that agrees with the workers and the main seat says what all layers require of it.
abbrev pub CoursesTellLines : Type 0
CoursesTellLines =
    (way : Manner) (t : Trace) (r : Told) (c : Course) (v : View) (xs : List Exchange) → IsWholeRunBy way t r c v xs →
    (l : ReportLine) → Contains r.report l → IsLineBy way t c v l →
    IsLineSaid t r v (told_by_turns way t c) (phase_seats way t c l.phase) l

-- The cached slots of a line of the report are those that the workers' lists have at the end of its phase.
abbrev pub IsLineCached : Trace → Course → ReportLine → Type 0
IsLineCached t c l = IsCachedBy l.partition t.threads (c.ends l.phase) l.cached

-- If threads play beside each other, the ops of workers meet their obligations for the lists, and so do the report's cached slots.
abbrev pub CoursesTellLists : Type 0
CoursesTellLists =
    (t : Trace) (r : Told) (c : Course) (v : View) (xs : List Exchange) → IsWholeRun t r c v xs →
    ((l : ReportLine) → Contains r.report l → IsLineCached t c l) → ListsSay t r (told_in t c)
