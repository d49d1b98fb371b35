-- There is the worked run of writes, and it is the one in the order of the lines.
use Rattle.std.proofs.Common.{arith, [], ◌∷◌, map, refl, lit<, rules, Global}
use Rattle.pa_trace.specs.Limits.{IsWithinLimits}
use Rattle.pa_record.specs.Bits.{RunInBits}
use Rattle.pa_rules.specs.Played.{entry_of}
use Rattle.pa_examples.specs.WorkedWrites.{writes_trace, writes_records, writes_journal, writes_pool, writes_report, WritesAreTold, WritesAreFiled}
use Rattle.pa_examples.proofs.worked.Telling.{AreFew, run_of, told_by}
use Rattle.pa_examples.proofs.worked.Clauses.{IsWritten, written_is_filed}
use Rattle.pa_examples.proofs.worked.Writes as writes
use Rattle.pa_examples.proofs.worked.WritesHeld as held

few : AreFew (map entry_of writes_records) (writes_journal ∷ []) writes_pool [] writes_report
few = (lit< tt, lit< tt, lit< tt, lit< tt, lit< tt)

fits : (heap : Global) → RunInBits (run_of (map entry_of writes_records) (writes_journal ∷ []) writes_pool [] writes_report few heap)
fits heap = record { entries = search rules; roots = search rules; pool = search rules; cells = search rules; report = search rules }

limits : IsWithinLimits writes_trace
limits = record { version = (omega arith, omega arith); head = search rules; lines = search rules; few = search rules }

pub writes_are_told : WritesAreTold
writes_are_told = told_by (map entry_of writes_records) (writes_journal ∷ []) writes_pool [] writes_report few writes_trace limits fits

writes_written : IsWritten writes_trace writes_records (writes_journal ∷ []) writes_pool [] writes_report
writes_written = record {
  lines = writes.lines;
  cells = writes.cells;
  registers = writes.registers;
  slots = writes.slots;
  contents = writes.contents;
  pool = held.pooled;
  roots = held.rooted;
  titles = held.titled;
  holders = held.held;
  caches = held.cached;
  seen = writes.seen;
  report = held.reported;
}

pub writes_are_filed : WritesAreFiled
writes_are_filed r is = written_is_filed writes_trace r writes_records (writes_journal ∷ []) writes_pool
    [] writes_report limits refl is writes_written
