-- A delayed run under way: the lines of its trace up to one of them were played, each in its turn.
use Rattle.std.specs.Prelude.{◌≡◌, ℕ, ◌+◌, ◌<◌, ◌≤◌, List, false, map, length, take, Contains}
use Rattle.pa_trace.specs.declared.script.Trace.{Trace}
use Rattle.pa_trace.specs.Rules.{rules_of}
use Rattle.pa_record.specs.declared.report.ReportLine.{ReportLine}
use Rattle.pa_region.specs.declared.view.View.{View}
use Rattle.pa_rules.specs.Legal.{phases_in}
use Rattle.pa_rules.specs.Report.{phases_of}
use Rattle.pa_cells.specs.declared.handle.Handle.{Handle}
use Rattle.pa_delay.specs.Queue.{QueueList}
use Rattle.pa_totals.specs.Settled.{none_owed}
use Rattle.pa_op_specs.specs.Stocks.{rules_at}
use Rattle.pa_op_specs.specs.Workers.{WorkerValue}
use Rattle.pa_heap.specs.Waiting.{HoldsQueue}
use Rattle.pa_execution.specs.Turns.{InTurn, last_turn}
use Rattle.pa_execution.specs.Courses.{Course}
use Rattle.pa_execution.specs.Growing.{HasEndedBy}
use Rattle.pa_execution.specs.Gathering.{IsMain}
use Rattle.pa_runner.specs.Phases.{HaveTold, worker_in}
use Rattle.pa_runner.specs.Reporting.{IsTotalled}
use Rattle.pa_runner.specs.Tracing.{lines_by}
use Rattle.pa_delay_runner.specs.Course.{IsDelayedCourse}
use Rattle.pa_delay_runner.specs.Laws.{IsLineWaiting}
use Rattle.pa_delay_runner.specs.Played.{delay_in}

-- At line index i of the trace the worker of thread k, which lent its stake, has a record of each line of its thread before, and room for
-- those of all. It isn't stopped, plays by the trace's rules, and owes nothing to the totals words.
pub record IsAtLine (t : Trace) (i k : ℕ) (w : WorkerValue) : Type 0 where
  pub thread : w.stock.thread ≡ k
  pub partitions : w.stock.partitions ≡ t.partitions
  pub rules : rules_at w.stock ≡ rules_of t
  pub going : w.stopped ≡ false
  pub settled : w.owed ≡ none_owed
  pub room : w.room ≡ lines_by k t.lines
  pub count : length w.records ≡ lines_by k (take i t.lines)

-- These slots are in the queue of thread k, which lets so many bytes stay, and has room for a slot of each line of the thread. It has no
-- more slots than the thread's worker has records, and that worker has each of them free and on no list.
pub record IsQueueFor (bytes : ℕ) (t : Trace) (k : ℕ) (slots : List Handle) (w : WorkerValue) (q : QueueList) : Type 0 where
  pub is : q ≡ record { limit = bytes; room = lines_by k t.lines; slots = slots }
  pub few : length slots ≤ length w.records
  pub holds : HoldsQueue slots w.stock

-- The report has a line for each partition of each of the first phases. Each of these ended in one of the turns that are over, and its
-- lines are right at the end of that.
pub record IsDelayedReportOf (t : Trace) (phases turns : ℕ) (course : Course) (waiting : ℕ → ℕ → List Handle)
    (report : List ReportLine) : Type 0 where
  pub places : map (λ (l : ReportLine). (l.phase, l.partition)) report ≡ phases_of t.partitions 1 phases
  pub within : (l : ReportLine) → Contains report l → last_turn InTurn t l.phase ≤ turns
  pub right : (l : ReportLine) → Contains report l →
      IsTotalled t.threads (course.ends (last_turn InTurn t l.phase)) (course.seats (last_turn InTurn t l.phase)) l
  pub cached : (l : ReportLine) → Contains report l → IsLineWaiting t course waiting l

-- At line index i of the trace, in this phase, the turns of the head and of the lines before are over. `waiting n k` is what thread k's
-- queue had at the end of turn n. All workers have lent their stakes to the main seat, and the report has the phases before.
pub record HasPlayedUpTo (bytes : ℕ) (t : Trace) (i phase : ℕ) (workers : List WorkerValue) (queues : List QueueList) (seat : View)
    (report : List ReportLine) : Type 0 where
  pub over : ℕ
  pub phase_is : phase ≡ over + 1
  pub here : phases_in (take i t.lines) ≡ phase
  pub many : length workers ≡ t.threads
  pub count : length queues ≡ t.threads
  pub main : IsMain t.threads seat
  pub course : Course
  pub waiting : ℕ → ℕ → List Handle
  pub ends : List WorkerValue
  pub same_count : length ends ≡ t.threads
  pub ended : HasEndedBy InTurn t (i + 1) course (worker_in ends) seat
  pub delayed : IsDelayedCourse bytes t (i + 1) course waiting
  pub told : HaveTold t.threads ends workers
  pub each : (k : ℕ) → k < t.threads → IsAtLine t i k (worker_in workers k)
  pub queued : (k : ℕ) → k < t.threads → IsQueueFor bytes t k (waiting (i + 1) k) (worker_in workers k) (delay_in queues k)
  pub reported : IsDelayedReportOf t over (i + 1) course waiting report
