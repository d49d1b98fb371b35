-- The worked run with an early read is legal, clause by clause, and there is such a run.
use Rattle.std.proofs.Common.{arith, [], ◌∷◌, map, lit<, rules, Global}
use Rattle.pa_trace.specs.Limits.{IsWithinLimits}
use Rattle.pa_record.specs.Bits.{RunInBits}
use Rattle.pa_rules.specs.Played.{entry_of}
use Rattle.pa_examples.specs.Worked.{two_threads_journal, two_threads_pool}
use Rattle.pa_examples.specs.WorkedEarly.{early_read_trace, early_read_records, there_history, back_history, early_read_report, EarlyReadIsTold, EarlyReadIsLegal}
use Rattle.pa_examples.proofs.worked.Clauses.{IsWritten, written_is_legal}
use Rattle.pa_examples.proofs.worked.Telling.{AreFew, run_of, told_by}
use Rattle.pa_examples.proofs.worked.Early as early
use Rattle.pa_examples.proofs.worked.EarlyRead as read
use Rattle.pa_examples.proofs.worked.EarlyHeld as used

few : AreFew (map entry_of early_read_records) (two_threads_journal ∷ []) two_threads_pool
    (there_history ∷ back_history ∷ []) early_read_report
few = (lit< tt, lit< tt, lit< tt, lit< tt, lit< tt)

fits : (heap : Global) →
    RunInBits (run_of (map entry_of early_read_records) (two_threads_journal ∷ []) two_threads_pool
    (there_history ∷ back_history ∷ []) early_read_report few heap)
fits heap = record { entries = search rules; roots = search rules; pool = search rules; cells = search rules; report = search rules }

limits : IsWithinLimits early_read_trace
limits = record { version = (omega arith, omega arith); head = search rules; lines = search rules; few = search rules }

pub early_read_is_told : EarlyReadIsTold
early_read_is_told =
    told_by (map entry_of early_read_records) (two_threads_journal ∷ []) two_threads_pool
    (there_history ∷ back_history ∷ []) early_read_report few early_read_trace limits fits

written : IsWritten early_read_trace early_read_records (two_threads_journal ∷ []) two_threads_pool
    (there_history ∷ back_history ∷ []) early_read_report
written = record {
  lines = early.lines;
  cells = early.exchanged;
  registers = read.registers;
  slots = early.slots;
  contents = read.contents;
  pool = used.pooled;
  roots = used.rooted;
  titles = used.titled;
  holders = used.held;
  caches = used.cached;
  seen = early.seen;
  report = used.reported;
}

pub early_read_is_legal : EarlyReadIsLegal
early_read_is_legal r is =
    written_is_legal early_read_trace r early_read_records (two_threads_journal ∷ []) two_threads_pool
    (there_history ∷ back_history ∷ []) early_read_report is written
