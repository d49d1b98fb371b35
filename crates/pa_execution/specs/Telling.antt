-- What follows from an execution: each layer meets its obligations.
use Rattle.std.specs.Prelude.{◌≡◌, ℕ, ◌<◌, ◌≤◌, List, [], map, filter, Contains}
use Rattle.pa_trace.specs.declared.script.Trace.{Trace}
use Rattle.pa_trace.specs.Limits.{IsWithinLimits, most_partitions}
use Rattle.pa_record.specs.declared.report.ReportLine.{ReportLine}
use Rattle.pa_region.specs.declared.view.View.{View}
use Rattle.pa_region.specs.Lists.{list_of}
use Rattle.pa_region.specs.Waiting.{unclean_of}
use Rattle.pa_rules.specs.Played.{entry_of}
use Rattle.pa_rules.specs.Legal.{phases_in}
use Rattle.pa_rules.specs.Told.{Told}
use Rattle.pa_legal.specs.Flows.{SlotsFlow}
use Rattle.pa_logs.specs.Told.{played_in, is_of_thread, told_until}
use Rattle.pa_logs.specs.Standing.{OnlyUnmapsUncut}
use Rattle.pa_logs.specs.InTurn.{TurnsSay}
use Rattle.pa_logs.specs.Said.{RunnerSays, PoolTells, RootsTell, CellsTell, HeapTells, IsLineSaid, LayersSay}
use Rattle.pa_timeline.specs.Timeline.{HasTimeline}
use Rattle.pa_cells.specs.Cells.{Exchange}
use Rattle.pa_execution.specs.Turns.{Manner, Beside, InTurn, turns_in, last_turn}
use Rattle.pa_execution.specs.Courses.{Course, IsCourseBy, Closes}
use Rattle.pa_execution.specs.Merged.{told_by_turns, phase_seats, swaps_of, IsLeftBehind}

-- A whole run: its execution through all turns in this manner, the seat that closes it, and the output that they left.
pub record IsWholeRunBy (way : Manner) (t : Trace) (r : Told) (c : Course) (v : View) (xs : List Exchange) : Type 0 where
  pub course : IsCourseBy way t (turns_in way t) c
  pub closes : Closes (c.seats (turns_in way t)) v
  pub left : IsLeftBehind t r v (told_by_turns way t c) xs

-- a whole run whose threads played beside each other
abbrev pub IsWholeRun : Trace → Told → Course → View → List Exchange → Type 0
IsWholeRun t r c v xs = IsWholeRunBy Beside t r c v xs

-- the ops of workers meet their obligations in each whole run
abbrev pub CoursesTellHeap : Type 0
CoursesTellHeap =
    (way : Manner) (t : Trace) (r : Told) (c : Course) (v : View) (xs : List Exchange) → IsWholeRunBy way t r c v xs →
    HeapTells t r (told_by_turns way t c)

-- the runner meets its obligations in each whole run
abbrev pub CoursesTellRunner : Type 0
CoursesTellRunner =
    (way : Manner) (t : Trace) (r : Told) (c : Course) (v : View) (xs : List Exchange) → IsWholeRunBy way t r c v xs →
    RunnerSays t r v (told_by_turns way t c) (phase_seats way t c)

-- the pool meets its obligations in each whole run
abbrev pub CoursesTellPool : Type 0
CoursesTellPool =
    (way : Manner) (t : Trace) (r : Told) (c : Course) (v : View) (xs : List Exchange) → IsWholeRunBy way t r c v xs →
    PoolTells t r v (told_by_turns way t c)

-- the roots meet their obligations in each whole run
abbrev pub CoursesTellRoots : Type 0
CoursesTellRoots =
    (way : Manner) (t : Trace) (r : Told) (c : Course) (v : View) (xs : List Exchange) → IsWholeRunBy way t r c v xs →
    RootsTell t r v (told_by_turns way t c)

-- the cells meet their obligations in each whole run, with the exchanges that are in the closing seat's list of them
abbrev pub CoursesTellCells : Type 0
CoursesTellCells =
    (way : Manner) (t : Trace) (r : Told) (c : Course) (v : View) (xs : List Exchange) → IsWholeRunBy way t r c v xs →
    CellsTell r v (told_by_turns way t c) (swaps_of (list_of 5 v) xs)

-- The closing seat has seen nothing of the list of a partition past the trace's.
abbrev pub CoursesLeaveNonePast : Type 0
CoursesLeaveNonePast =
    (way : Manner) (t : Trace) (c : Course) (v : View) → IsWithinLimits t → IsCourseBy way t (turns_in way t) c →
    Closes (c.seats (turns_in way t)) v → (p : ℕ) → t.partitions ≤ p → p < most_partitions → list_of p v ≡ []

-- At the end of a phase each worker has the records of its thread so far, in order. A title that a log segment says was uncut goes back
-- by an entry of the same record. That asks nothing of the close, so the records can be merged before it.
pub record HaveTheirs (way : Manner) (t : Trace) (c : Course) : Type 0 where
  pub records : (n k : ℕ) → 1 ≤ n → n ≤ phases_in t.lines → k < t.threads →
      (c.ends (last_turn way t n) k).records ≡ map entry_of (played_in (filter (is_of_thread k) (told_until n (told_by_turns way t c))))
  pub unmaps : OnlyUnmapsUncut (told_by_turns way t c)

-- workers have their records in each execution through all turns of a trace that is within the limits
abbrev pub WorkersHaveTheirs : Type 0
WorkersHaveTheirs =
    (way : Manner) (t : Trace) (c : Course) → IsWithinLimits t → IsCourseBy way t (turns_in way t) c → HaveTheirs way t c

-- If each line of the report is right, by the workers' counts and by the roots, all layers meet all their obligations.
abbrev pub CoursesTellAll : Type 0
CoursesTellAll =
    (way : Manner) (t : Trace) (r : Told) (c : Course) (v : View) (xs : List Exchange) → IsWholeRunBy way t r c v xs →
    ((l : ReportLine) → Contains r.report l → IsLineSaid t r v (told_by_turns way t c) (phase_seats way t c l.phase) l) →
    LayersSay t r v (told_by_turns way t c)

-- A whole run whose threads played beside each other has a timeline, if its report is right, slots flow in it, and the closing seat has no
-- Own that isn't clean.
abbrev pub CoursesTellTimeline : Type 0
CoursesTellTimeline =
    (t : Trace) (r : Told) (c : Course) (v : View) (xs : List Exchange) → IsWholeRun t r c v xs →
    ((l : ReportLine) → Contains r.report l → IsLineSaid t r v (told_by_turns Beside t c) (phase_seats Beside t c l.phase) l) →
    SlotsFlow t.partitions r.roots (played_in (told_by_turns Beside t c)) → unclean_of v ≡ 0 → HasTimeline t r

-- In a whole run by turns each line is played after those before it: what is said besides of such a run holds.
abbrev pub TurnsTell : Type 0
TurnsTell =
    (t : Trace) (r : Told) (c : Course) (v : View) (xs : List Exchange) → IsWholeRunBy InTurn t r c v xs →
    TurnsSay v (told_by_turns InTurn t c) c.seats
