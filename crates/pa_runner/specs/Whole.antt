-- All phases of a trace, and the run that is left of them.
use Rattle.std.specs.Prelude.{◌≡◌, ℕ, ◌*◌, List, length, Contains}
use Rattle.pa_trace.specs.declared.script.Trace.{Trace}
use Rattle.pa_record.specs.declared.report.ReportLine.{ReportLine}
use Rattle.pa_record.specs.declared.run.Run.{Run}
use Rattle.pa_record.specs.RunText.{IsPrintable}
use Rattle.pa_region.specs.declared.view.View.{View}
use Rattle.pa_rules.specs.Told.{told_by}
use Rattle.pa_rules.specs.Legal.{IsLegal}
use Rattle.pa_rules.specs.Held.{IsHeldIn}
use Rattle.pa_timeline.specs.Timeline.{HasTimeline}
use Rattle.pa_op_specs.specs.Workers.{WorkerValue}
use Rattle.pa_execution.specs.Turns.{Beside}
use Rattle.pa_execution.specs.Lines.{IsLineCached}
use Rattle.pa_runner.specs.Gone.{HasGone}
use Rattle.pa_runner.specs.Linked.{HasLinkedLists}
use Rattle.pa_runner.specs.Recorded.{HasSpanRecords}

-- All phases of a trace were played, each after the one before it, and each line of the report says what the workers' lists have at the
-- end of its phase.
pub record HasPlayed (t : Trace) (workers : List WorkerValue) (seat : View) (report : List ReportLine) : Type 0 where
  pub gone : HasGone Beside t workers seat report
  pub cached : (l : ReportLine) → Contains report l → IsLineCached t gone.course l

-- The run is a legal run of the trace, all its steps are in one order in which it could have been played, the words are all those of the
-- closed region's super pages, hold the run, and have the threads' lists and the spans of each partition, and it can be printed.
pub record IsHeldRun (t : Trace) (run : Run) (words : List ℕ) : Type 0 where
  pub legal : IsLegal t run
  pub ordered : HasTimeline t (told_by run)
  pub held : IsHeldIn t (told_by run) words
  pub lists : HasLinkedLists t (told_by run) words
  pub spans : HasSpanRecords (told_by run) words
  pub long : length words ≡ 262144 * t.region
  pub printable : IsPrintable run
