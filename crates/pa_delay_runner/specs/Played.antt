-- All turns of a delayed run, and the run that is left of them.
use Rattle.std.specs.Prelude.{◌≡◌, ℕ, ◌*◌, List, [], ◌++◌, map, length, slice_index_or, Contains}
use Rattle.pa_trace.specs.declared.script.Trace.{Trace}
use Rattle.pa_record.specs.declared.report.ReportLine.{ReportLine}
use Rattle.pa_record.specs.declared.run.Run.{Run}
use Rattle.pa_record.specs.RunText.{IsPrintable}
use Rattle.pa_region.specs.declared.view.View.{View}
use Rattle.pa_rules.specs.Report.{partitions_of}
use Rattle.pa_rules.specs.Told.{told_by}
use Rattle.pa_rules.specs.Held.{IsHeldIn}
use Rattle.pa_cells.specs.declared.handle.Handle.{Handle}
use Rattle.pa_delay.specs.Queue.{QueueList}
use Rattle.pa_delay.specs.Runs.{IsDelayedRun}
use Rattle.pa_op_specs.specs.Workers.{WorkerValue}
use Rattle.pa_execution.specs.Turns.{InTurn, turns_in}
use Rattle.pa_runner.specs.Gone.{HasGone}
use Rattle.pa_runner.specs.Recorded.{HasSpanRecords}
use Rattle.pa_runner.specs.Reporting.{HasAsked, IsTotalled}
use Rattle.pa_delay_runner.specs.Course.{IsCachedWith, IsDelayedCourse}
use Rattle.pa_delay_runner.specs.Laws.{IsLineWaiting}

-- the queue to use if there is none: it is empty and has room for nothing
abbrev pub no_queue : QueueList
no_queue = record { limit = 0; room = 0; slots = [] }

-- the queue at place k, or an empty one if there is none
abbrev pub delay_in : List QueueList → ℕ → QueueList
delay_in queues k = slice_index_or queues k no_queue

-- the slots of the queue at place k, none if there is no queue
abbrev pub slots_in : List QueueList → ℕ → List Handle
slots_in queues k = (delay_in queues k).slots

-- The line is of this phase, and says what the workers counted, what their lists and queues have, and the totals words and the census of
-- its root, as a seat has seen them.
pub record IsDelayedLineFor (phase threads : ℕ) (workers : ℕ → WorkerValue) (queues : ℕ → List Handle) (seat : View)
    (l : ReportLine) : Type 0 where
  pub phase_is : l.phase ≡ phase
  pub totals : IsTotalled threads workers seat l
  pub cached : IsCachedWith l.partition threads workers queues l.cached

-- Lines were appended to those of a report: one for each partition in order, each of this phase and right.
pub record IsReportedWith (phase partitions threads : ℕ) (workers : ℕ → WorkerValue) (queues : ℕ → List Handle) (first seat : View)
    (before after : List ReportLine) : Type 0 where
  pub asked : HasAsked first seat
  pub lines : List ReportLine
  pub behind : after ≡ before ++ lines
  pub places : map (λ (l : ReportLine). (l.phase, l.partition)) lines ≡ partitions_of phase 0 partitions
  pub right : (l : ReportLine) → Contains lines l → IsDelayedLineFor phase threads workers queues seat l

-- All lines of a trace were played one after the other, with a queue of at most so many bytes before each thread's lists. `waiting n k` is
-- what thread k's queue has at the end of turn n, and the report says what lists and queues have.
pub record HasPlayedDelayed (bytes : ℕ) (t : Trace) (workers : List WorkerValue) (seat : View) (report : List ReportLine) : Type 0 where
  pub gone : HasGone InTurn t workers seat report
  pub waiting : ℕ → ℕ → List Handle
  pub delayed : IsDelayedCourse bytes t (turns_in InTurn t) gone.course waiting
  pub cached : (l : ReportLine) → Contains report l → IsLineWaiting t gone.course waiting l

-- The run is the delayed run of the trace for that many bytes. The words are all those of the closed region's super pages, hold the run,
-- and have the spans of each partition, and the run can be printed.
pub record IsHeldDelayed (bytes : ℕ) (t : Trace) (run : Run) (words : List ℕ) : Type 0 where
  pub delayed : IsDelayedRun bytes t run
  pub held : IsHeldIn t (told_by run) words
  pub spans : HasSpanRecords (told_by run) words
  pub long : length words ≡ 262144 * t.region
  pub printable : IsPrintable run
