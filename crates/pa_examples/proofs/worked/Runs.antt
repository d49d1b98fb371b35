-- The worked runs of direct maps and of two threads are legal: clause by clause, and the direct maps in the order of the
-- lines, as a run of one thread.
use Rattle.std.proofs.Common.{[], ◌∷◌, refl}
use Rattle.pa_record.specs.Worked.{direct_map_again_pool, direct_map_again_journal}
use Rattle.pa_examples.specs.Worked.{direct_map_trace, direct_map_records, direct_map_report, DirectMapIsFiled, two_threads_trace, two_threads_records, two_threads_journal, two_threads_pool, two_threads_history, two_threads_report, TwoThreadsAreLegal}
use Rattle.pa_examples.proofs.worked.Clauses.{IsWritten, written_is_legal, written_is_filed}
use Rattle.pa_examples.proofs.worked.Told.{direct_map_limits}
use Rattle.pa_examples.proofs.worked.Maps as maps
use Rattle.pa_examples.proofs.worked.MapsPlaced as placed
use Rattle.pa_examples.proofs.worked.MapsHeld as held
use Rattle.pa_examples.proofs.worked.Threads as threads
use Rattle.pa_examples.proofs.worked.ThreadsRead as read
use Rattle.pa_examples.proofs.worked.ThreadsHeld as used
use Rattle.pa_examples.proofs.worked.ThreadsReport as report

direct_map_written : IsWritten direct_map_trace direct_map_records (direct_map_again_journal ∷ []) direct_map_again_pool
    [] direct_map_report
direct_map_written = record {
  lines = maps.lines;
  cells = maps.cells;
  registers = maps.registers;
  slots = maps.slots;
  contents = maps.contents;
  pool = placed.pooled;
  roots = placed.rooted;
  titles = placed.titled;
  holders = held.held;
  caches = held.cached;
  seen = maps.seen;
  report = held.reported;
}

pub direct_map_is_filed : DirectMapIsFiled
direct_map_is_filed r is =
    written_is_filed direct_map_trace r direct_map_records (direct_map_again_journal ∷ []) direct_map_again_pool
    [] direct_map_report direct_map_limits refl is direct_map_written

two_threads_written : IsWritten two_threads_trace two_threads_records (two_threads_journal ∷ []) two_threads_pool
    (two_threads_history ∷ []) two_threads_report
two_threads_written = record {
  lines = threads.lines;
  cells = threads.exchanged;
  registers = read.registers;
  slots = threads.slots;
  contents = read.contents;
  pool = used.pooled;
  roots = used.rooted;
  titles = used.titled;
  holders = used.held;
  caches = used.cached;
  seen = threads.seen;
  report = report.reported;
}

pub two_threads_are_legal : TwoThreadsAreLegal
two_threads_are_legal r is =
    written_is_legal two_threads_trace r two_threads_records (two_threads_journal ∷ []) two_threads_pool
    (two_threads_history ∷ []) two_threads_report is two_threads_written
