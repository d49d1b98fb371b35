-- The worked run of direct maps, with its log, its lists and its seat: one map goes back as it is freed, one is
-- quarantined and goes back with the reset of its raw_ptr, and for one there is no room.
use Rattle.std.specs.Prelude.{ℕ, List, [], ◌∷◌, map, Some, None}
use Rattle.pa_slot.specs.declared.title.Title.{Title}
use Rattle.pa_slot.specs.declared.word.SlotName.{SlotName}
use Rattle.pa_slot.specs.declared.word.Step.TheVariants.{Issue, Copy, Reset, Free}
use Rattle.pa_region.specs.declared.view.Entry.{Entry}
use Rattle.pa_region.specs.declared.view.Entry.TheVariants.{Counted, Uncut}
use Rattle.pa_region.specs.declared.view.SeenNumber.{SeenNumber}
use Rattle.pa_trace.specs.declared.script.Op.TheVariants as ops
use Rattle.pa_record.specs.declared.entry.Answer.TheVariants as answers
use Rattle.pa_record.specs.declared.run.Run.{Run}
use Rattle.pa_record.specs.Worked.{map_made, map_gone, full, pool_take, pool_give, direct_map_again_pool, direct_map_again_journal}
use Rattle.pa_rules.specs.Played.{entry_of}
use Rattle.pa_rules.specs.Told.{told_by}
use Rattle.pa_rules.specs.Worked.{of_first_thread}
use Rattle.pa_examples.specs.Worked.{IsRunOf, seen_at, direct_map_trace, direct_map_records, direct_map_report}
use Rattle.pa_logs.specs.Told.{ToldRecord}
use Rattle.pa_logs.specs.Whole.{IsPlayedOut}
use Rattle.pa_logs.specs.Worked.{view_of}
use Rattle.pa_examples.specs.told.Worked.{Worked, told_records}
use Rattle.pa_examples.specs.told.Threads.{took, filled}

-- each slot has the length of a direct map of that size
abbrev pub map_long : SlotName → ℕ
map_long s = 2002944

-- the direct map of this entry of the pool
abbrev pub map_title : ℕ → Title
map_title born = record { start = 16384; len = 2002944; born = born }

-- a note that the direct map of this entry of the pool was seen at number n
abbrev pub seen_map : ℕ → ℕ → SeenNumber
seen_map born n = record { title = map_title born; number = n }

-- what the log gains by an allocation of a direct map
abbrev pub mapped : ℕ → ℕ → List Entry
mapped line born = took (pool_take line 0 1 (Some 0)) ∷ filled (map_made line born 16384 2002944) ∷ Counted (map_title born) Issue 0 0 ∷ []

-- what the log gains when the map of entry `born` of the pool goes back at this number, by entry `asked`
abbrev pub unmapped : ℕ → ℕ → ℕ → ℕ → List Entry
unmapped line asked born number =
    took (pool_give line 0 1 0) ∷ filled (map_gone line asked 16384 born number) ∷ Uncut (map_title born) ∷ []

-- the eight records: three maps are made, two go back, and one request is refused while a map stands
abbrev pub maps_worked : List Worked
maps_worked =
    record {
      played = of_first_thread 2 (ops.Alloc 0 0 2000000) (answers.Made (seen_at 16384 0 0) 2002936);
      stretch = mapped 2 0;
      saw = [];
      gives = seen_map 0 1 ∷ [];
    }
    ∷ record {
      played = of_first_thread 3 (ops.Free 0) (answers.Done (seen_at 16384 0 0x1000001));
      stretch = Counted (map_title 0) Free 0x1000001 0 ∷ unmapped 3 1 0 2;
      saw = seen_map 0 1 ∷ [];
      gives = seen_map 0 2 ∷ [];
    }
    ∷ record {
      played = of_first_thread 4 (ops.Alloc 0 0 2000000) (answers.Made (seen_at 16384 2 0) 2002936);
      stretch = mapped 4 2;
      saw = seen_map 0 2 ∷ [];
      gives = seen_map 2 1 ∷ seen_map 0 2 ∷ [];
    }
    ∷ record {
      played = of_first_thread 5 (ops.Copy 0 1) (answers.Done (seen_at 16384 2 0x1000001));
      stretch = Counted (map_title 2) Copy 0x1000001 0 ∷ [];
      saw = seen_map 2 1 ∷ seen_map 0 2 ∷ [];
      gives = seen_map 2 2 ∷ seen_map 0 2 ∷ [];
    }
    ∷ record {
      played = of_first_thread 6 (ops.Free 0) (answers.Done (seen_at 16384 2 0x2000003));
      stretch = Counted (map_title 2) Free 0x2000003 0 ∷ [];
      saw = seen_map 2 2 ∷ seen_map 0 2 ∷ [];
      gives = seen_map 2 3 ∷ seen_map 0 2 ∷ [];
    }
    ∷ record {
      played = of_first_thread 7 (ops.Alloc 2 0 2000000) (answers.Full 3);
      stretch = took (pool_take 7 0 1 None) ∷ filled (full 7 None 3) ∷ [];
      saw = seen_map 2 3 ∷ seen_map 0 2 ∷ [];
      gives = seen_map 2 3 ∷ seen_map 0 2 ∷ [];
    }
    ∷ record {
      played = of_first_thread 8 (ops.Reset 1) (answers.Done (seen_at 16384 2 0x3000002));
      stretch = Counted (map_title 2) Reset 0x3000002 0 ∷ unmapped 8 4 2 4;
      saw = seen_map 2 3 ∷ seen_map 0 2 ∷ [];
      gives = seen_map 2 4 ∷ seen_map 0 2 ∷ [];
    }
    ∷ record {
      played = of_first_thread 9 (ops.Alloc 2 0 2000000) (answers.Made (seen_at 16384 5 0) 2002936);
      stretch = mapped 9 5;
      saw = seen_map 2 4 ∷ seen_map 0 2 ∷ [];
      gives = seen_map 5 1 ∷ seen_map 2 4 ∷ seen_map 0 2 ∷ [];
    }
    ∷ []

-- the eight records, with each title's numbers looked up in the notes
abbrev pub maps_told : List ToldRecord
maps_told = told_records maps_worked

-- a run with the lists that were worked out meets, with these records, all that is required
abbrev pub DirectMapIsPlayedOut : Type 0
DirectMapIsPlayedOut =
    (r : Run) →
    IsRunOf r (map entry_of direct_map_records) (direct_map_again_journal ∷ []) direct_map_again_pool [] direct_map_report →
    IsPlayedOut map_long (λ line. line) direct_map_trace (told_by r) (view_of maps_told) maps_told
