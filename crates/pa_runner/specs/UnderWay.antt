-- A trace that is played phase after phase, up to one of its lines: the phases before are over, and the lines of the phase of that
-- line are in the queues of their threads.
use Rattle.std.specs.Prelude.{◌≡◌, ℕ, ◌+◌, ◌<◌, ◌≤◌, ◌⊎◌, List, [], ◌∷◌, false, map, length, take, slice_index_or, Contains}
use Rattle.std.specs.List.{AllByRecursion}
use Rattle.pa_trace.specs.declared.script.Line.{Line}
use Rattle.pa_trace.specs.declared.script.Line.TheVariants.{Phase}
use Rattle.pa_trace.specs.declared.script.Trace.{Trace}
use Rattle.pa_trace.specs.Limits.{IsOpWithin}
use Rattle.pa_trace.specs.Rules.{rules_of}
use Rattle.pa_record.specs.declared.report.ReportLine.{ReportLine}
use Rattle.pa_region.specs.declared.view.View.{View}
use Rattle.pa_region.specs.Views.{HasEveryStake}
use Rattle.pa_rules.specs.Legal.{phases_in}
use Rattle.pa_rules.specs.Report.{phases_of}
use Rattle.pa_totals.specs.Settled.{none_owed}
use Rattle.pa_op_specs.specs.Stocks.{rules_at}
use Rattle.pa_op_specs.specs.Workers.{WorkerValue, HasItsStake}
use Rattle.pa_execution.specs.Courses.{Course, HasSeenAll, lines_in}
use Rattle.pa_execution.specs.Growing.{HasBegun}
use Rattle.pa_execution.specs.Gathering.{IsMain}
use Rattle.pa_runner.specs.declared.thread_lines.LineOp.{LineOp}
use Rattle.pa_runner.specs.Playing.{in_phase, AreBefore}
use Rattle.pa_runner.specs.Phases.{HaveReturned, queue_in, worker_in}
use Rattle.pa_runner.specs.Reporting.{IsLineFor}
use Rattle.pa_runner.specs.Tracing.{lines_by}

-- the line numbers rise, from line n on, and are all below `last`
abbrev pub RiseTo : ℕ → List LineOp → ℕ → Type 0
RiseTo n [] last = n ≤ last
RiseTo n (due ∷ rest) last = (n ≤ due.line) × RiseTo (due.line + 1) rest last

-- At line index i of the trace the worker of thread k has a record of each of its lines of the phases that are over, and its queue
-- has its lines of this phase, up to that index. It plays by the trace's rules, and owes nothing to the totals words.
pub record IsAtPlace (t : Trace) (i k : ℕ) (queue : List LineOp) (w : WorkerValue) : Type 0 where
  pub thread : w.stock.thread ≡ k
  pub partitions : w.stock.partitions ≡ t.partitions
  pub rules : rules_at w.stock ≡ rules_of t
  pub going : w.stopped ≡ false
  pub stake : HasItsStake w.stock
  pub settled : w.owed ≡ none_owed
  pub room : w.room ≡ lines_by k t.lines
  pub count : length w.records + length queue ≡ lines_by k (take i t.lines)
  pub limits : AllByRecursion (λ (due : LineOp). IsOpWithin t.partitions due.op) queue
  pub rise : (n : ℕ) × AreBefore n w.records × RiseTo n queue (i + 2)
  pub lines : map (in_phase (rules_of t) (phases_in (take i t.lines)) k) queue
      ≡ lines_in (rules_of t) (take i t.lines) (phases_in (take i t.lines)) k

-- The report has a line for each partition of each of the first phases, and each is right at the end of its phase.
pub record IsReportOf (t : Trace) (phases : ℕ) (course : Course) (report : List ReportLine) : Type 0 where
  pub places : map (λ (l : ReportLine). (l.phase, l.partition)) report ≡ phases_of t.partitions 1 phases
  pub within : (l : ReportLine) → Contains report l → (1 ≤ l.phase) × (l.phase ≤ phases)
  pub right : (l : ReportLine) → Contains report l → IsLineFor l.phase t.threads (course.ends l.phase) (course.seats l.phase) l

-- At line index i of the trace this is the phase. The phases before are over, and all workers have their stakes back since.
pub record IsUnderWay (t : Trace) (i phase : ℕ) (workers : List WorkerValue) (queues : List (List LineOp)) (seat : View)
    (report : List ReportLine) : Type 0 where
  pub over : ℕ
  pub phase_is : phase ≡ over + 1
  pub here : phases_in (take i t.lines) ≡ phase
  pub many : length workers ≡ t.threads
  pub count : length queues ≡ t.threads
  pub main : IsMain t.threads seat
  pub course : Course
  pub begun : HasBegun t over course (worker_in workers)
  pub seen : 1 ≤ over → HasSeenAll (course.seats over) seat
  pub each : (k : ℕ) → k < t.threads → IsAtPlace t i k (queue_in queues k) (worker_in workers k)
  pub reported : IsReportOf t over course report

-- Memory ran out when a trace was under way to some line index, in some phase. Either no line of that phase was played, and workers
-- and main seat are as they were, or all workers are back from the phase, with or without having stopped,
-- and the main seat has every stake.
pub record StopsIn (t : Trace) (workers : List WorkerValue) (seat : View) : Type 0 where
  pub index : ℕ
  pub phase : ℕ
  pub before : List WorkerValue
  pub queues : List (List LineOp)
  pub main : View
  pub report : List ReportLine
  pub going : IsUnderWay t index phase before queues main report
  pub left : ((workers ≡ before) × (seat ≡ main)) ⊎ (HaveReturned queues before workers main seat × HasEveryStake seat)

-- a new phase begins at index i
pub record BeginsPhase (i : ℕ) (lines : List Line) : Type 0 where
  pub low : i < length lines
  pub is : slice_index_or lines i Phase ≡ Phase
