-- There is the worked purge, and it is the run of its trace in the order of the lines.
use Rattle.std.proofs.Common.{arith, [], ◌∷◌, map, refl, lit<, rules, Global}
use Rattle.pa_trace.specs.Limits.{IsWithinLimits}
use Rattle.pa_record.specs.Bits.{RunInBits}
use Rattle.pa_record.specs.Worked.{purge_pool, purge_journal}
use Rattle.pa_rules.specs.Played.{entry_of}
use Rattle.pa_rules.specs.Worked.{purge_records}
use Rattle.pa_examples.specs.WorkedPurge.{purge_trace, purge_report, PurgeIsTold, PurgeIsFiled}
use Rattle.pa_examples.proofs.worked.Telling.{AreFew, run_of, told_by}
use Rattle.pa_examples.proofs.worked.Clauses.{IsWritten, written_is_filed}
use Rattle.pa_examples.proofs.worked.Purge as purge

few : AreFew (map entry_of purge_records) (purge_journal ∷ []) purge_pool [] purge_report
few = (lit< tt, lit< tt, lit< tt, lit< tt, lit< tt)

fits : (heap : Global) → RunInBits (run_of (map entry_of purge_records) (purge_journal ∷ []) purge_pool [] purge_report few heap)
fits heap = record { entries = search rules; roots = search rules; pool = search rules; cells = search rules; report = search rules }

limits : IsWithinLimits purge_trace
limits = record { version = (omega arith, omega arith); head = search rules; lines = search rules; few = search rules }

pub purge_is_told : PurgeIsTold
purge_is_told = told_by (map entry_of purge_records) (purge_journal ∷ []) purge_pool [] purge_report few purge_trace limits fits

purge_written : IsWritten purge_trace purge_records (purge_journal ∷ []) purge_pool [] purge_report
purge_written = record {
  lines = purge.lines;
  cells = purge.cells;
  registers = purge.registers;
  slots = purge.slots_in_order;
  contents = purge.contents;
  pool = purge.pooled;
  roots = purge.rooted;
  titles = purge.titled;
  holders = purge.held;
  caches = purge.cached;
  seen = purge.seen;
  report = purge.reported;
}

pub purge_is_filed : PurgeIsFiled
purge_is_filed r is = written_is_filed purge_trace r purge_records (purge_journal ∷ []) purge_pool
    [] purge_report limits refl is purge_written
