-- What follows of a run whose lines were played one after the other, with a queue before each thread's lists.
use Rattle.std.specs.Prelude.{ℕ, ◌<◌, ◌≤◌, nat_lt, if◌then◌else◌, List, [], Contains}
use Rattle.pa_slot.specs.declared.title.Title.{Title}
use Rattle.pa_trace.specs.declared.script.Trace.{Trace}
use Rattle.pa_record.specs.declared.report.ReportLine.{ReportLine}
use Rattle.pa_region.specs.declared.view.View.{View}
use Rattle.pa_region.specs.Views.{free_of}
use Rattle.pa_rules.specs.Caches.{no_caches}
use Rattle.pa_rules.specs.Told.{Told}
use Rattle.pa_logs.specs.InTurn.{told_up_to}
use Rattle.pa_logs.specs.Said.{sizes_in}
use Rattle.pa_logs.specs.Standing.{OutIsFree}
use Rattle.pa_logs.specs.Told.{played_in}
use Rattle.pa_cells.specs.declared.handle.Handle.{Handle}
use Rattle.pa_cells.specs.Cells.{Exchange}
use Rattle.pa_delay.specs.Delayed.{Queues, no_queues, DelayedTo}
use Rattle.pa_delay.specs.Runs.{IsDelayedTold}
use Rattle.pa_op_specs.specs.Stocks.{HoldsLists}
use Rattle.pa_heap.specs.Waiting.{waiting_in}
use Rattle.pa_execution.specs.Turns.{InTurn, turns_in, last_turn}
use Rattle.pa_execution.specs.Courses.{Course}
use Rattle.pa_execution.specs.Merged.{told_by_turns, lists_at}
use Rattle.pa_execution.specs.Telling.{IsWholeRunBy}
use Rattle.pa_execution.specs.Lines.{IsLineBy}
use Rattle.pa_delay_runner.specs.Course.{IsCachedWith, IsDelayedCourse}

-- the threads' queues at the end of a turn, as the rules have them; a thread that the run doesn't have has none
abbrev pub queues_at : Trace → Course → (ℕ → ℕ → List Handle) → ℕ → Queues
queues_at t c waiting n k = if nat_lt k t.threads then waiting_in (c.ends n k).stock (waiting n k) else []

-- what a line of the report says is cached is what the workers have in lists and queues at the end of its phase
abbrev pub IsLineWaiting : Trace → Course → (ℕ → ℕ → List Handle) → ReportLine → Type 0
IsLineWaiting t c waiting l =
    IsCachedWith l.partition t.threads (c.ends (last_turn InTurn t l.phase)) (waiting (last_turn InTurn t l.phase)) l.cached

-- each worker's lists are as they must be at the end of a turn
abbrev pub HaveLists : Trace → Course → ℕ → Type 0
HaveLists t c n = (k : ℕ) → k < t.threads → HoldsLists (c.ends n k).stock.caches (c.ends n k).stock.view

-- The records of the first lines lead to the lists and the queues that the workers have when the last of these lines is over.
abbrev pub RecordsLead : Type 0
RecordsLead =
    (bytes : ℕ) (t : Trace) (r : Told) (c : Course) (v : View) (xs : List Exchange) (waiting : ℕ → ℕ → List Handle) →
    IsWholeRunBy InTurn t r c v xs → IsDelayedCourse bytes t (turns_in InTurn t) c waiting → (n : ℕ) → 1 ≤ n → n ≤ turns_in InTurn t →
    DelayedTo bytes t.partitions r.roots no_caches no_queues (played_in (told_up_to n (told_by_turns InTurn t c))) (lists_at t c n)
    (queues_at t c waiting n)

-- A whole run whose queues went so is the delayed run of its trace, if its report says what the workers counted, what the roots have, and
-- what is cached in lists and queues.
abbrev pub DelayedIsTold : Type 0
DelayedIsTold =
    (bytes : ℕ) (t : Trace) (r : Told) (c : Course) (v : View) (xs : List Exchange) (waiting : ℕ → ℕ → List Handle) →
    IsWholeRunBy InTurn t r c v xs → IsDelayedCourse bytes t (turns_in InTurn t) c waiting →
    ((l : ReportLine) → Contains r.report l → IsLineBy InTurn t c v l) →
    ((l : ReportLine) → Contains r.report l → IsLineWaiting t c waiting l) → IsDelayedTold bytes t r

-- In such a run the closing seat has each title free whose slot exists, is out of its root and is named by no log, if it has free what each
-- worker had free at the end of the last line, and each worker's lists were as they must be then.
abbrev pub WaitsFree : Type 0
WaitsFree =
    (bytes : ℕ) (t : Trace) (r : Told) (c : Course) (v : View) (xs : List Exchange) (waiting : ℕ → ℕ → List Handle) →
    IsWholeRunBy InTurn t r c v xs → IsDelayedCourse bytes t (turns_in InTurn t) c waiting →
    ((l : ReportLine) → Contains r.report l → IsLineBy InTurn t c v l) →
    ((k : ℕ) → k < t.threads → (u : Title) → free_of (c.ends (turns_in InTurn t) k).stock.view u ≤ free_of v u) →
    HaveLists t c (turns_in InTurn t) → OutIsFree (sizes_in t r) r.pools r.roots v
