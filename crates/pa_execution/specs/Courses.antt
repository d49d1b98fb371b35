-- How a run of several workers went, turn after turn: what they played, and when they lent their stakes and got them back. In the run of
-- threads that play beside each other a turn is a phase.
use Rattle.std.specs.Prelude.{◌≡◌, ℕ, ◌+◌, ◌<◌, ◌≤◌, ◌==◌, ◌&&◌, Bool, true, false, List, [], ◌∷◌, map, filter}
use Rattle.pa_slot.specs.declared.title.Title.{Title}
use Rattle.pa_trace.specs.declared.script.Rules.{Rules}
use Rattle.pa_trace.specs.Rules.{rules_of}
use Rattle.pa_region.specs.declared.view.View.{View}
use Rattle.pa_region.specs.Views.{seen_of, HasEveryStake}
use Rattle.pa_region.specs.Lists.{list_of, IsBeginning}
use Rattle.pa_region.specs.Takes.{log_of}
use Rattle.pa_region.specs.Aware.{IsAware}
use Rattle.pa_trace.specs.declared.script.Line.{Line}
use Rattle.pa_trace.specs.declared.script.Trace.{Trace}
use Rattle.pa_rules.specs.Played.{OpLine, op_lines, op_line_of}
use Rattle.pa_rules.specs.Caches.{SameLists}
use Rattle.pa_logs.specs.Told.{ToldRecord, played_in}
use Rattle.pa_totals.specs.Settled.{none_owed}
use Rattle.pa_op_specs.specs.Stocks.{listed_in}
use Rattle.pa_op_specs.specs.Workers.{WorkerValue, IsNewWorker, worker_with_view}
use Rattle.pa_op_specs.specs.Plays.{PlaysSome, PlaysAll}
use Rattle.pa_execution.specs.Turns.{Manner, Beside, InTurn, lines_in_turn}

-- these ops were played, one after the other, in this manner
abbrev pub PlaysBy : Manner → WorkerValue → List ToldRecord → WorkerValue → Type 0
PlaysBy Beside w xs after = PlaysAll w xs after
PlaysBy InTurn w xs after = PlaysSome w xs after

-- How a run went. For each turn, from 1 on, and each thread it has the worker as it began, the records of its lines, and the worker
-- as it ended, before it lent its stake. For each turn it has the main seat at the end, when all had lent theirs.
pub record Course : Type 0 where
  pub starts : ℕ → ℕ → WorkerValue
  pub plays : ℕ → ℕ → List ToldRecord
  pub ends : ℕ → ℕ → WorkerValue
  pub seats : ℕ → View

-- the op line is thread k's, in phase n
abbrev pub is_line_of : ℕ → ℕ → OpLine → Bool
is_line_of n k o = (o.phase == n) && (o.thread == k)

-- The ops of thread k in phase n, in order, by the trace's rules. The trace's ops are on lines from 2 on, in phases from 1 on.
abbrev pub lines_in : Rules → List Line → ℕ → ℕ → List OpLine
lines_in rules ls n k = filter (is_line_of n k) (op_lines rules 2 1 ls)

-- a seat later on, or another one: it has seen of each list and each title what the first has
pub record HasSeenAll (first second : View) : Type 0 where
  pub lists : (q : ℕ) → IsBeginning (list_of q first) (list_of q second)
  pub seen : (u : Title) → seen_of first u ≤ seen_of second u

-- the worker of the trace's thread k before its first turn: it has played nothing, and its log is empty
pub record BeginsNew (t : Trace) (k : ℕ) (w : WorkerValue) : Type 0 where
  pub lines : ℕ
  pub view : View
  pub new : IsNewWorker k t.partitions (rules_of t).plain_from t.version lines view w
  pub log : log_of k view ≡ []

-- At a turn's end each worker has lent its stake to the main seat. That has every stake, each with its worker's log, or an empty log
-- if the run has no such thread. It has seen what each worker has.
pub record HasHeardAll (threads : ℕ) (ends : ℕ → WorkerValue) (seat : View) : Type 0 where
  pub aware : IsAware seat
  pub every : HasEveryStake seat
  pub logs : (k : ℕ) → k < threads → log_of k seat ≡ log_of k (ends k).stock.view
  pub idle : (k : ℕ) → threads ≤ k → log_of k seat ≡ []
  pub sees : (k : ℕ) → k < threads → HasSeenAll (ends k).stock.view seat

-- If a turn follows, the worker of thread k gets its stake back. It is as it was but for its view, which has the same log, and if it
-- has heard, it has seen what the main seat has. Its lists are the same, each title at its number.
pub record HearsIf (heard : Bool) (k : ℕ) (seat : View) (before after : WorkerValue) : Type 0 where
  pub view : View
  pub same : after ≡ worker_with_view view before
  pub log : log_of k view ≡ log_of k before.stock.view
  pub lists : SameLists (listed_in after.stock) (listed_in before.stock)
  pub seen : heard ≡ true → (u : Title) → seen_of seat u ≤ seen_of view u

-- it has heard
abbrev pub Hears : ℕ → View → (before after : WorkerValue) → Type 0
Hears k seat before after = HearsIf true k seat before after

-- there is a record
abbrev pub some_in : List ToldRecord → Bool
some_in [] = false
some_in (x ∷ xs) = true

-- The first `turns` turns of the trace went so, in this manner.
--   begins: at the start each worker is new
--   plays, lines: in each turn each plays its lines, in order
--   settled: at the end of a turn each owes nothing to the totals words
--   tells: then all lend their stakes to the main seat
--   hears: if a turn follows they get them back, and who plays a line in it has heard
--   keeps: the main seat forgets nothing
pub record IsCourseBy (way : Manner) (t : Trace) (turns : ℕ) (c : Course) : Type 0 where
  pub begins : (k : ℕ) → k < t.threads → BeginsNew t k (c.starts 1 k)
  pub plays : (n k : ℕ) → 1 ≤ n → n ≤ turns → k < t.threads → PlaysBy way (c.starts n k) (c.plays n k) (c.ends n k)
  pub lines : (n k : ℕ) → 1 ≤ n → n ≤ turns → k < t.threads → map op_line_of (played_in (c.plays n k)) ≡ lines_in_turn way t n k
  pub settled : (n k : ℕ) → 1 ≤ n → n ≤ turns → k < t.threads → (c.ends n k).owed ≡ none_owed
  pub tells : (n : ℕ) → 1 ≤ n → n ≤ turns → HasHeardAll t.threads (c.ends n) (c.seats n)
  pub hears : (n k : ℕ) → 1 ≤ n → n < turns → k < t.threads →
      HearsIf (some_in (c.plays (n + 1) k)) k (c.seats n) (c.ends n k) (c.starts (n + 1) k)
  pub keeps : (n : ℕ) → 1 ≤ n → n < turns → HasSeenAll (c.seats n) (c.seats (n + 1))

-- the first phases went so, and threads played beside each other
abbrev pub IsCourse : Trace → ℕ → Course → Type 0
IsCourse t phases c = IsCourseBy Beside t phases c

-- The seat that closes the region, in which all are joined: it has every stake with the log that the main seat had at the end of the
-- last turn, and has seen what that had.
pub record Closes (seat last : View) : Type 0 where
  pub aware : IsAware last
  pub every : HasEveryStake last
  pub logs : (k : ℕ) → log_of k last ≡ log_of k seat
  pub sees : HasSeenAll seat last
