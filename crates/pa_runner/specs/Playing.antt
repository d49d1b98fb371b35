-- The lines of one thread in one phase, and what the worker that played them did.
use Rattle.std.specs.Prelude.{◌≡◌, ℕ, ◌+◌, ◌<◌, ◌≤◌, List, [], ◌∷◌, ◌++◌, Some, true, false, map, length, take, slice_get, Contains}
use Rattle.std.specs.List.{AllByRecursion}
use Rattle.pa_trace.specs.Limits.{IsOpWithin}
use Rattle.pa_trace.specs.declared.script.Rules.{Rules}
use Rattle.pa_op_specs.specs.Stocks.{rules_at}
use Rattle.pa_record.specs.declared.entry.Entry.{Entry}
use Rattle.pa_rules.specs.Played.{OpLine, op_line_of}
use Rattle.pa_logs.specs.Told.{ToldRecord, played_in}
use Rattle.pa_totals.specs.Settled.{none_owed}
use Rattle.pa_op_specs.specs.Workers.{WorkerValue, HasItsStake}
use Rattle.pa_op_specs.specs.Plays.{PlaysAll}
use Rattle.pa_thread_state.specs.Stopping.{KeepsItsStake}
use Rattle.pa_runner.specs.declared.thread_lines.LineOp.{LineOp}
use Rattle.pa_runner.specs.Stopped.{StopsOp}

-- the op line that this is, by these rules, of a thread in a phase
abbrev pub in_phase : Rules → (phase thread : ℕ) → LineOp → OpLine
in_phase rules phase thread due = record { line = due.line; thread = thread; phase = phase; rules = rules; op = due.op }

-- the line numbers rise, from line n on
abbrev pub RiseFrom : ℕ → List LineOp → Type 0
RiseFrom n [] = Unit {0}
RiseFrom n (due ∷ rest) = (n ≤ due.line) × RiseFrom (due.line + 1) rest

-- all records are of lines before line n
abbrev pub AreBefore : ℕ → List Entry → Type 0
AreBefore n es = (e : Entry) → Contains es e → e.line < n

-- the records end with this one
abbrev pub EndsWith : Entry → List Entry → Type 0
EndsWith e es = (rest : List Entry) × (es ≡ rest ++ e ∷ [])

-- A worker can play these lines. It isn't stopped, has its stake and room for their records. Each line is within the limits, and
-- their numbers rise, after those of its records.
pub record CanPlay (lines : List LineOp) (w : WorkerValue) : Type 0 where
  pub going : w.stopped ≡ false
  pub stake : HasItsStake w.stock
  pub room : length w.records + length lines ≤ w.room
  pub limits : AllByRecursion (λ (due : LineOp). IsOpWithin w.stock.partitions due.op) lines
  pub rise : (n : ℕ) × AreBefore n w.records × RiseFrom n lines

-- The worker played these lines, in order, in whatever phase they are. It has one more record for each, isn't stopped, has its stake,
-- and room for as many records in all as before.
pub record PlaysLines (lines : List LineOp) (before after : WorkerValue) : Type 0 where
  pub plays : (phase : ℕ) → (xs : List ToldRecord) × PlaysAll before xs after
      × (map op_line_of (played_in xs) ≡ map (in_phase (rules_at before.stock) phase before.stock.thread) lines)
  pub going : after.stopped ≡ false
  pub stake : HasItsStake after.stock
  pub records : (es : List Entry) × (after.records ≡ before.records ++ es)
      × (map (λ (e : Entry). e.line) es ≡ map (λ (due : LineOp). due.line) lines)
  pub room : after.room ≡ before.room

-- Memory ran out at one of these lines: the worker played those before it, and was as `last` then. It has its stake still, and the
-- records that it had, so none of that line; its registers, lists and counts are what the line's op leaves then.
pub record StopsAt (lines : List LineOp) (before after : WorkerValue) : Type 0 where
  pub count : ℕ
  pub more : count < length lines
  pub due : LineOp
  pub at : slice_get lines count ≡ Some due
  pub last : WorkerValue
  pub played : PlaysLines (take count lines) before last
  pub keeps : KeepsItsStake last.stock after.stock
  pub records : after.records ≡ last.records
  pub left : StopsOp due.line due.op last after

-- A worker is back from these lines: it has its stake still, and owes nothing to the totals words. If it isn't stopped, it played them,
-- and if it is, it stopped at one.
pub record IsPlayed (lines : List LineOp) (before after : WorkerValue) : Type 0 where
  pub keeps : KeepsItsStake before.stock after.stock
  pub settled : after.owed ≡ none_owed
  pub played : after.stopped ≡ false → PlaysLines lines before after
  pub stopped : after.stopped ≡ true → StopsAt lines before after
