-- The records of all threads in the order of the trace's lines.
use Rattle.std.specs.Prelude.{◌≡◌, ℕ, ◌<◌, Bool, ◌==◌, List, length, filter}
use Rattle.pa_trace.specs.declared.script.Line.{Line}
use Rattle.pa_trace.specs.declared.script.Rules.{Rules}
use Rattle.pa_record.specs.declared.entry.Entry.{Entry}
use Rattle.pa_rules.specs.Played.{AreDue}
use Rattle.pa_op_specs.specs.Workers.{WorkerValue}
use Rattle.pa_runner.specs.Phases.{worker_in}

-- the record is of thread k
abbrev pub is_entry_of : ℕ → Entry → Bool
is_entry_of k e = e.thread == k

-- These are the records of the trace's op lines by its rules, in order, and each worker has those of its thread.
pub record IsMergeOf (lines : List Line) (workers : List WorkerValue) (es : List Entry) : Type 0 where
  pub rules : Rules
  pub due : AreDue rules lines es
  pub theirs : (k : ℕ) → k < length workers → (worker_in workers k).records ≡ filter (is_entry_of k) es
