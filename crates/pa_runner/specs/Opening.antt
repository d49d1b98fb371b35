-- The workers of all threads as they begin.
use Rattle.std.specs.Prelude.{◌≡◌, ℕ, zero, suc, ◌<◌, List, [], ◌∷◌, length}
use Rattle.pa_region.specs.declared.marks.Mark.TheVariants.{Stake}
use Rattle.pa_region.specs.declared.view.View.{View}
use Rattle.pa_region.specs.Views.{stake_of}
use Rattle.pa_region.specs.Takes.{log_of}
use Rattle.pa_region.specs.Hands.{left_after}
use Rattle.pa_region.specs.Marks.{parcel_of}
use Rattle.pa_trace.specs.declared.script.Line.{Line}
use Rattle.pa_trace.specs.declared.script.Rules.{Rules}
use Rattle.pa_trace.specs.declared.script.Trace.{Trace}
use Rattle.pa_trace.specs.Rules.{rules_of}
use Rattle.pa_op_specs.specs.Workers.{WorkerValue, IsNewWorker}
use Rattle.pa_runner.specs.Phases.{worker_in}
use Rattle.pa_runner.specs.Tracing.{lines_by}

-- A worker before its first line, of a run by these rules: it has its thread's stake, with an empty log, and room for this many records.
pub record IsNewFor (thread partitions : ℕ) (rules : Rules) (lines : ℕ) (w : WorkerValue) : Type 0 where
  pub view : View
  pub new : IsNewWorker thread partitions rules.plain_from rules.version lines view w
  pub stake : 0 < stake_of view thread
  pub log : log_of thread view ≡ []

-- each thread of a trace has such a worker, with room for a record of each of its lines
pub record AreNew (t : Trace) (workers : List WorkerValue) : Type 0 where
  pub count : length workers ≡ t.threads
  pub each : (k : ℕ) → k < t.threads → IsNewFor k t.partitions (rules_of t) (lines_by k t.lines) (worker_in workers k)

-- the main seat after it handed the first `count` threads their stakes, each with a counted step for each line of its thread
abbrev pub after_opening : List Line → (count : ℕ) → View → View
after_opening lines zero seat = seat
after_opening lines (suc k) seat = left_after (parcel_of [] (lines_by k lines) (Stake k ∷ [])) (after_opening lines k seat)
