-- How an execution grows, a turn at a time, so that a loop over turns can keep it. If threads play beside each other that is a phase.
use Rattle.std.specs.Prelude.{◌≡◌, ℕ, ◌+◌, ◌<◌, ◌≤◌, Bool, true, false, List, [], map}
use Rattle.pa_trace.specs.Rules.{rules_of}
use Rattle.pa_region.specs.declared.view.View.{View}
use Rattle.pa_trace.specs.declared.script.Trace.{Trace}
use Rattle.pa_rules.specs.Played.{op_line_of}
use Rattle.pa_logs.specs.Told.{ToldRecord, played_in}
use Rattle.pa_totals.specs.Settled.{none_owed}
use Rattle.pa_op_specs.specs.Workers.{WorkerValue}
use Rattle.pa_op_specs.specs.Plays.{PlaysAll}
use Rattle.pa_execution.specs.Turns.{Manner, Beside, lines_in_turn}
use Rattle.pa_execution.specs.Courses.{Course, PlaysBy, IsCourseBy, BeginsNew, HasSeenAll, HasHeardAll, HearsIf, Hears, lines_in}

-- Two executions have their first turns in common.
pub record Agree (turns : ℕ) (c d : Course) : Type 0 where
  pub starts : (n k : ℕ) → 1 ≤ n → n ≤ turns → d.starts n k ≡ c.starts n k
  pub plays : (n k : ℕ) → 1 ≤ n → n ≤ turns → d.plays n k ≡ c.plays n k
  pub ends : (n k : ℕ) → 1 ≤ n → n ≤ turns → d.ends n k ≡ c.ends n k
  pub seats : (n : ℕ) → 1 ≤ n → n ≤ turns → d.seats n ≡ c.seats n

-- The first `turns` turns went so, and these workers begin the next one: new ones in the first turn, else those of the last one. By the
-- test `hears` a worker has heard since.
pub record HasBegunBy (way : Manner) (t : Trace) (turns : ℕ) (c : Course) (hears : ℕ → Bool) (starts : ℕ → WorkerValue) : Type 0 where
  pub course : IsCourseBy way t turns c
  pub new : turns ≡ 0 → (k : ℕ) → k < t.threads → BeginsNew t k (starts k)
  pub heard : 1 ≤ turns → (k : ℕ) → k < t.threads → HearsIf (hears k) k (c.seats turns) (c.ends turns k) (starts k)

-- The first `turns` turns went so, and left these workers, before they lent their stakes, and this main seat, after all had.
pub record HasEndedBy (way : Manner) (t : Trace) (turns : ℕ) (c : Course) (workers : ℕ → WorkerValue) (main : View) : Type 0 where
  pub course : IsCourseBy way t turns c
  pub ends : (k : ℕ) → k < t.threads → c.ends turns k ≡ workers k
  pub seat : c.seats turns ≡ main

-- the worker of thread k played its lines of turn n, which are these, in order, and owes nothing to the totals words at the end
abbrev pub PlaysTurn : Manner → Trace → ℕ → ℕ → (before : WorkerValue) → List ToldRecord → (after : WorkerValue) → Type 0
PlaysTurn way t n k before xs after =
    PlaysBy way before xs after × (map op_line_of (played_in xs) ≡ lines_in_turn way t n k) × (after.owed ≡ none_owed)

-- The execution d is c with one turn more, in which these workers began, played these records and were left, and this main seat.
pub record HasGrown (way : Manner) (t : Trace) (n : ℕ) (c d : Course) (starts : ℕ → WorkerValue) (plays : ℕ → List ToldRecord)
    (ends : ℕ → WorkerValue) (seat : View) : Type 0 where
  pub agree : Agree n c d
  pub ended : HasEndedBy way t (n + 1) d ends seat
  pub began : (k : ℕ) → d.starts (n + 1) k ≡ starts k
  pub played : (k : ℕ) → d.plays (n + 1) k ≡ plays k

-- The execution d is c with this main seat at the end of turn n, its last, in which it has seen more.
pub record HasSeenMore (way : Manner) (t : Trace) (n : ℕ) (c d : Course) (ends : ℕ → WorkerValue) (seat : View) : Type 0 where
  pub starts : (m k : ℕ) → d.starts m k ≡ c.starts m k
  pub plays : (m k : ℕ) → d.plays m k ≡ c.plays m k
  pub same_ends : (m k : ℕ) → d.ends m k ≡ c.ends m k
  pub seats : (m : ℕ) → m < n → d.seats m ≡ c.seats m
  pub ended : HasEndedBy way t n d ends seat

-- How executions grow, in each manner.
--   begins: at the start no turn is over
--   ends: when each has played its lines of the next turn and lent its stake, that is over, and those before are what they were; who
--     hasn't heard has no lines in it
--   goes_on: when these have their stakes back, the next one begins
--   waits: who hasn't heard begins it as it ended the last one
--   looks: the main seat can see more before the next one begins
pub record TurnsGrow : Type 0 where
  pub begins : (way : Manner) (t : Trace) (heard : ℕ → Bool) (starts : ℕ → WorkerValue) →
      ((k : ℕ) → k < t.threads → BeginsNew t k (starts k)) → (c : Course) × HasBegunBy way t 0 c heard starts
  pub ends : (way : Manner) (t : Trace) (n : ℕ) (c : Course) (heard : ℕ → Bool) (starts : ℕ → WorkerValue) (plays : ℕ → List ToldRecord)
      (ends : ℕ → WorkerValue) (seat : View) → HasBegunBy way t n c heard starts →
      ((k : ℕ) → k < t.threads → PlaysTurn way t (n + 1) k (starts k) (plays k) (ends k)) →
      ((k : ℕ) → k < t.threads → heard k ≡ false → lines_in_turn way t (n + 1) k ≡ []) → HasHeardAll t.threads ends seat →
      (1 ≤ n → HasSeenAll (c.seats n) seat) → (d : Course) × HasGrown way t n c d starts plays ends seat
  pub goes_on : (way : Manner) (t : Trace) (n : ℕ) (c : Course) (heard : ℕ → Bool) (ends starts : ℕ → WorkerValue) (seat : View) → 1 ≤ n →
      HasEndedBy way t n c ends seat → ((k : ℕ) → k < t.threads → HearsIf (heard k) k seat (ends k) (starts k)) →
      HasBegunBy way t n c heard starts
  pub waits : (k : ℕ) (seat : View) (w : WorkerValue) → HearsIf false k seat w w
  pub looks : (way : Manner) (t : Trace) (n : ℕ) (c : Course) (ends : ℕ → WorkerValue) (seat next : View) →
      HasEndedBy way t n c ends seat → HasHeardAll t.threads ends next → HasSeenAll seat next →
      (d : Course) × HasSeenMore way t n c d ends next

-- ---- threads that play beside each other

-- the first phases went so, and these workers begin the next one, all of which have heard
abbrev pub HasBegun : Trace → ℕ → Course → (ℕ → WorkerValue) → Type 0
HasBegun t phases c starts = HasBegunBy Beside t phases c (λ k. true) starts

-- the first phases went so, and left these workers and this main seat
abbrev pub HasEnded : Trace → ℕ → Course → (ℕ → WorkerValue) → View → Type 0
HasEnded t phases c workers main = HasEndedBy Beside t phases c workers main

-- the worker of thread k played its lines of phase n, in order, and owes nothing to the totals words at the end
abbrev pub PlaysPhase : Trace → ℕ → ℕ → (before after : WorkerValue) → Type 0
PlaysPhase t n k before after =
    (xs : List ToldRecord) × PlaysAll before xs after × (map op_line_of (played_in xs) ≡ lines_in (rules_of t) t.lines n k)
    × (after.owed ≡ none_owed)

-- How executions of threads that play beside each other grow.
--   begins: at the start no phase is over
--   ends: when each has played its lines of the next phase and lent its stake, that is over, and those before are what they were
--   goes_on: when each has its stake back, the next one begins
pub record CoursesGrow : Type 0 where
  pub begins : (t : Trace) (starts : ℕ → WorkerValue) → ((k : ℕ) → k < t.threads → BeginsNew t k (starts k)) →
      (c : Course) × HasBegun t 0 c starts
  pub ends : (t : Trace) (n : ℕ) (c : Course) (starts ends : ℕ → WorkerValue) (seat : View) → HasBegun t n c starts →
      ((k : ℕ) → k < t.threads → PlaysPhase t (n + 1) k (starts k) (ends k)) → HasHeardAll t.threads ends seat →
      (1 ≤ n → HasSeenAll (c.seats n) seat) → (d : Course) × Agree n c d × HasEnded t (n + 1) d ends seat
  pub goes_on : (t : Trace) (n : ℕ) (c : Course) (ends starts : ℕ → WorkerValue) (seat : View) → 1 ≤ n → HasEnded t n c ends seat →
      ((k : ℕ) → k < t.threads → Hears k seat (ends k) (starts k)) → HasBegun t n c starts
