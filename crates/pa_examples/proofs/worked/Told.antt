-- There are runs with the lists that were worked out, of traces within the limits.
use Rattle.std.proofs.Common.{arith, [], ◌∷◌, map, lit<, rules, Global}
use Rattle.pa_trace.specs.Limits.{IsWithinLimits}
use Rattle.pa_record.specs.Bits.{RunInBits}
use Rattle.pa_record.specs.Worked.{direct_map_again_pool, direct_map_again_journal}
use Rattle.pa_rules.specs.Played.{entry_of}
use Rattle.pa_examples.specs.Worked.{direct_map_trace, direct_map_records, direct_map_report, DirectMapIsTold, two_threads_trace, two_threads_records, two_threads_journal, two_threads_pool, two_threads_history, two_threads_report, TwoThreadsAreTold}
use Rattle.pa_examples.proofs.worked.Telling.{AreFew, run_of, told_by}

direct_map_few : AreFew (map entry_of direct_map_records) (direct_map_again_journal ∷ []) direct_map_again_pool [] direct_map_report
direct_map_few = (lit< tt, lit< tt, lit< tt, lit< tt, lit< tt)

direct_map_fits : (heap : Global) →
    RunInBits (run_of (map entry_of direct_map_records) (direct_map_again_journal ∷ []) direct_map_again_pool
    [] direct_map_report direct_map_few heap)
direct_map_fits heap = record {
  entries = search rules;
  roots = search rules;
  pool = search rules;
  cells = search rules;
  report = search rules;
}

pub direct_map_limits : IsWithinLimits direct_map_trace
direct_map_limits = record { version = (omega arith, omega arith); head = search rules; lines = search rules; few = search rules }

pub direct_map_is_told : DirectMapIsTold
direct_map_is_told =
    told_by (map entry_of direct_map_records) (direct_map_again_journal ∷ []) direct_map_again_pool
    [] direct_map_report direct_map_few direct_map_trace direct_map_limits direct_map_fits

two_threads_few : AreFew (map entry_of two_threads_records) (two_threads_journal ∷ []) two_threads_pool
    (two_threads_history ∷ []) two_threads_report
two_threads_few = (lit< tt, lit< tt, lit< tt, lit< tt, lit< tt)

two_threads_fits : (heap : Global)
    → RunInBits (run_of (map entry_of two_threads_records) (two_threads_journal ∷ []) two_threads_pool
    (two_threads_history ∷ []) two_threads_report two_threads_few heap)
two_threads_fits heap = record {
  entries = search rules;
  roots = search rules;
  pool = search rules;
  cells = search rules;
  report = search rules;
}

two_threads_limits : IsWithinLimits two_threads_trace
two_threads_limits = record { version = (omega arith, omega arith); head = search rules; lines = search rules; few = search rules }

pub two_threads_are_told : TwoThreadsAreTold
two_threads_are_told =
    told_by (map entry_of two_threads_records) (two_threads_journal ∷ []) two_threads_pool
    (two_threads_history ∷ []) two_threads_report two_threads_few two_threads_trace two_threads_limits
    two_threads_fits
