-- What is left when all turns of a trace are over, in whatever manner they went, and the run that is made of it.
use Rattle.std.specs.Prelude.{◌≡◌, ℕ, ◌*◌, List, map, length, Contains}
use Rattle.pa_trace.specs.declared.script.Trace.{Trace}
use Rattle.pa_trace.specs.Limits.{most_partitions}
use Rattle.pa_record.specs.declared.entry.Entry.{Entry}
use Rattle.pa_record.specs.declared.report.ReportLine.{ReportLine}
use Rattle.pa_record.specs.declared.run.Run.{Run}
use Rattle.pa_region.specs.declared.view.View.{View}
use Rattle.pa_rules.specs.Report.{phases_of}
use Rattle.pa_rules.specs.Legal.{phases_in}
use Rattle.pa_heap.specs.declared.left.Left.{Left}
use Rattle.pa_heap.specs.Closing.{IsClosedBy}
use Rattle.pa_op_specs.specs.Workers.{WorkerValue}
use Rattle.pa_execution.specs.Turns.{Manner, turns_in, last_turn}
use Rattle.pa_execution.specs.Courses.{Course}
use Rattle.pa_execution.specs.Growing.{HasEndedBy}
use Rattle.pa_execution.specs.Merged.{phase_seats}
use Rattle.pa_execution.specs.Gathering.{IsMain}
use Rattle.pa_runner.specs.Merging.{IsMergeOf}
use Rattle.pa_runner.specs.Phases.{HaveTold, worker_in}
use Rattle.pa_runner.specs.Reporting.{IsTotalled}

-- All turns of a trace were played in this manner by new workers, and this is how:
--   ends, ended: the workers were as `ends` when the last turn was over
--   told: then each handed its stake to the main seat
--   main: the main seat has every other stake besides, and no unclean Own
--   places, right: the report has one line for each phase and partition in order, and each, but for what it says is cached, is right at the
--     end of its phase
pub record HasGone (way : Manner) (t : Trace) (workers : List WorkerValue) (seat : View) (report : List ReportLine) : Type 0 where
  pub course : Course
  pub ends : List WorkerValue
  pub count : length ends ≡ t.threads
  pub same_count : length workers ≡ t.threads
  pub ended : HasEndedBy way t (turns_in way t) course (worker_in ends) seat
  pub told : HaveTold t.threads ends workers
  pub main : IsMain t.threads seat
  pub places : map (λ (l : ReportLine). (l.phase, l.partition)) report ≡ phases_of t.partitions 1 (phases_in t.lines)
  pub right : (l : ReportLine) → Contains report l →
      IsTotalled t.threads (course.ends (last_turn way t l.phase)) (phase_seats way t course l.phase) l

-- The heap of a trace was closed by this seat, with these workers, and the run and the words are made of what it left.
--   left, closed, count: what it left, with a journal for each of 4 partitions
--   entries: the run's records are those of the workers, merged by the trace's lines
--   roots, pool, cells, words_are: the rest is what was left
--   report_is: its report is this one
pub record IsMadeOf (t : Trace) (workers : List WorkerValue) (seat : View) (report : List ReportLine) (run : Run)
    (words : List ℕ) : Type 0 where
  pub left : Left
  pub closed : IsClosedBy (262144 * t.region) workers seat left
  pub count : length left.roots ≡ most_partitions
  pub entries : (es : List Entry) → IsMergeOf t.lines workers es → run.entries.items ≡ es
  pub roots : run.roots.items ≡ left.roots
  pub pool : run.pool.items ≡ left.pool.items
  pub cells : run.cells.items ≡ left.cells.items
  pub report_is : run.report.items ≡ report
  pub words_are : words ≡ left.region
