-- What is required of a run to be legal is known of two that were worked out by hand.
use Rattle.std.specs.Prelude.{[], ◌∷◌, map}
use Rattle.pa_record.specs.declared.run.Run.{Run}
use Rattle.pa_record.specs.Worked.{direct_map_again_pool, direct_map_again_journal}
use Rattle.pa_rules.specs.Played.{entry_of}
use Rattle.pa_rules.specs.Told.{told_by, records_of}
use Rattle.pa_legal.specs.Known.{IsKnown}
use Rattle.pa_examples.specs.Worked.{IsRunOf, direct_map_trace, direct_map_records, direct_map_report, two_threads_trace, two_threads_records, two_threads_journal, two_threads_pool, two_threads_history, two_threads_report}

-- what is required of a run to be legal is known of the run of direct maps
abbrev pub DirectMapIsKnown : Type 0
DirectMapIsKnown =
    (r : Run) → IsRunOf r (map entry_of direct_map_records) (direct_map_again_journal ∷ []) direct_map_again_pool [] direct_map_report →
    IsKnown direct_map_trace (told_by r) (records_of direct_map_trace (told_by r))

-- what is required of a run to be legal is known of the run of two threads, with its read while the slot is freed
abbrev pub TwoThreadsAreKnown : Type 0
TwoThreadsAreKnown =
    (r : Run) → IsRunOf r (map entry_of two_threads_records) (two_threads_journal ∷ []) two_threads_pool
    (two_threads_history ∷ []) two_threads_report →
    IsKnown two_threads_trace (told_by r) (records_of two_threads_trace (told_by r))
