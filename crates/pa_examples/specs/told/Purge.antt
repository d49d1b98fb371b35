-- The worked run with a purge, with its log, its lists and its seat: a slot is freed,
-- goes back with the purge, and is taken again.
use Rattle.std.specs.Prelude.{List, [], ◌∷◌, ◌++◌, map, take, drop}
use Rattle.pa_slot.specs.declared.word.Step.TheVariants.{Issue, Free}
use Rattle.pa_region.specs.declared.view.Entry.TheVariants.{Counted}
use Rattle.pa_trace.specs.declared.script.Op.TheVariants as ops
use Rattle.pa_record.specs.declared.entry.Answer.TheVariants as answers
use Rattle.pa_record.specs.declared.run.Run.{Run}
use Rattle.pa_record.specs.Worked.{purge_pool, purge_journal}
use Rattle.pa_rules.specs.Played.{entry_of}
use Rattle.pa_rules.specs.Told.{told_by}
use Rattle.pa_rules.specs.Worked.{first_slot, of_first_thread, purge_records}
use Rattle.pa_examples.specs.Worked.{IsRunOf}
use Rattle.pa_examples.specs.WorkedPurge.{purge_trace, purge_report}
use Rattle.pa_logs.specs.Told.{ToldRecord}
use Rattle.pa_logs.specs.Whole.{IsPlayedOut}
use Rattle.pa_logs.specs.Worked.{sixteen, its_title, view_of}
use Rattle.pa_examples.specs.told.Worked.{Worked, told_records}
use Rattle.pa_examples.specs.told.Threads.{seen_number, took, filled}

-- the four records: an allocation, its free, the purge, and an allocation that gets the slot again
abbrev pub purge_worked : List Worked
purge_worked =
    record {
      played = of_first_thread 2 (ops.Alloc 0 0 8) (answers.Made (first_slot 0) 8);
      stretch = map took purge_pool ++ (map filled (take 1 purge_journal) ++ Counted its_title Issue 0 0 ∷ []);
      saw = [];
      gives = seen_number 1;
    }
    ∷ record {
      played = of_first_thread 3 (ops.Free 0) (answers.Done (first_slot 16777217));
      stretch = Counted its_title Free 16777217 0 ∷ [];
      saw = seen_number 1;
      gives = seen_number 2;
    }
    ∷ record {
      played = of_first_thread 4 ops.Purge (answers.Purged 8);
      stretch = map filled (take 2 (drop 1 purge_journal));
      saw = seen_number 2;
      gives = seen_number 2;
    }
    ∷ record {
      played = of_first_thread 5 (ops.Alloc 1 0 8) (answers.Made (first_slot 33554432) 8);
      stretch = map filled (drop 3 purge_journal) ++ Counted its_title Issue 33554432 0 ∷ [];
      saw = seen_number 2;
      gives = seen_number 3;
    }
    ∷ []

-- the four records, with each title's numbers looked up in the notes
abbrev pub purge_told : List ToldRecord
purge_told = told_records purge_worked

-- a run with the lists that were worked out meets, with these records, all that is required
abbrev pub PurgeIsPlayedOut : Type 0
PurgeIsPlayedOut =
    (r : Run) → IsRunOf r (map entry_of purge_records) (purge_journal ∷ []) purge_pool [] purge_report →
    IsPlayedOut sixteen (λ line. line) purge_trace (told_by r) (view_of purge_told) purge_told
