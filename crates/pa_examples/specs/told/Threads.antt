-- The worked run of two threads with its logs, its lists and its seats: one thread gives the other a raw_ptr
-- through a cell and frees the slot, while the other reads it and finds poison.
use Rattle.std.specs.Prelude.{ℕ, List, [], ◌∷◌, map, false, Some}
use Rattle.pa_slot.specs.declared.word.Step.TheVariants.{Issue, Copy, Reset, Free}
use Rattle.pa_slot.specs.Titles.{poison}
use Rattle.pa_region.specs.declared.view.Entry.{Entry}
use Rattle.pa_region.specs.declared.view.Entry.TheVariants.{Counted, Looked, Read, Entered}
use Rattle.pa_region.specs.declared.view.SeenNumber.{SeenNumber}
use Rattle.pa_region.specs.Moves.{no_deeds}
use Rattle.pa_trace.specs.declared.script.Op.TheVariants as ops
use Rattle.pa_record.specs.declared.entry.Answer.TheVariants as answers
use Rattle.pa_record.specs.declared.history.CellEntry.{CellEntry}
use Rattle.pa_record.specs.declared.history.Held.TheVariants as held
use Rattle.pa_record.specs.declared.pool.PoolEntry.{PoolEntry}
use Rattle.pa_record.specs.declared.root.RootEntry.{RootEntry}
use Rattle.pa_record.specs.declared.run.Run.{Run}
use Rattle.pa_record.specs.Numbers.{root_numbers, pool_numbers, cell_numbers}
use Rattle.pa_record.specs.Worked.{slots, fill, pool_take}
use Rattle.pa_rules.specs.Played.{entry_of}
use Rattle.pa_rules.specs.Told.{told_by}
use Rattle.pa_examples.specs.Worked.{IsRunOf, seen_at, two_threads_trace, two_threads_records, two_threads_journal, two_threads_pool, two_threads_history, two_threads_report, of_one}
use Rattle.pa_logs.specs.Told.{ToldRecord}
use Rattle.pa_logs.specs.Whole.{IsPlayedOut}
use Rattle.pa_logs.specs.Worked.{sixteen, its_title, view_of}
use Rattle.pa_examples.specs.told.Worked.{Worked, told_records}

-- a note that the slot was seen at this number
abbrev pub seen_number : ℕ → List SeenNumber
seen_number n = record { title = its_title; number = n } ∷ []

-- an entry of the pool's list, made with stake 0
abbrev pub took : PoolEntry → Entry
took e = Entered 4 (record { stake = 0; numbers = pool_numbers e; seen = [] })

-- an entry of the first root's list, made with stake 0
abbrev pub filled : RootEntry → Entry
filled e = Entered 0 (record { stake = 0; numbers = root_numbers e; seen = [] })

-- an entry of the cells' list, made with this stake, which carries that the slot was seen at number n
abbrev pub exchanged : ℕ → CellEntry → ℕ → Entry
exchanged stake e n = Entered 5 (record { stake = stake; numbers = cell_numbers e; seen = seen_number n })

-- the pool's one entry: on line 2 partition 0 took super page 0
abbrev pub the_take : PoolEntry
the_take = pool_take 2 0 1 (Some 0)

-- the root's one entry: on line 2 a fill of eight slots, 16 bytes apart from byte 16384 on
abbrev pub the_fill : RootEntry
the_fill = fill 2 0 (Some 0) (slots 0 0 (16384 ∷ 16400 ∷ 16416 ∷ 16432 ∷ 16448 ∷ 16464 ∷ 16480 ∷ 16496 ∷ []))

-- the cell's first entry: on line 4 the raw_ptr is put into the empty cell
abbrev pub the_gift : CellEntry
the_gift = record { line = 4; gave = held.Ref (record { start = 16384; born = 0 }); found = held.Nothing }

-- the cell's second entry: on line 7 the raw_ptr is taken out of it
abbrev pub the_taking : CellEntry
the_taking = record { line = 7; gave = held.Nothing; found = held.Ref (record { start = 16384; born = 0 }) }

-- a look of the slot that finds this word, and a read right after it that gives poison
abbrev pub read_poison : ℕ → List Entry
read_poison word = Looked its_title word ∷ Read its_title 0 poison no_deeds false false ∷ []

-- the read while the other thread frees the slot
abbrev pub the_read : Worked
the_read = record {
  played = record of_one { line = 8; thread = 1; phase = 2; op = ops.Read 0 0; answer = answers.Value (seen_at 16384 0 0x2000003) poison };
  stretch = read_poison 0x2000003;
  saw = seen_number 2;
  gives = seen_number 2;
}

-- the eight records of the run of two threads, with their log segments and notes
abbrev pub threads_worked : List Worked
threads_worked =
    record {
      played = record of_one { line = 2; thread = 0; phase = 1; op = ops.Alloc 0 0 8; answer = answers.Made (seen_at 16384 0 0) 8 };
      stretch = took the_take ∷ filled the_fill ∷ Counted its_title Issue 0 0 ∷ [];
      saw = [];
      gives = seen_number 1;
    }
    ∷ record {
      played = record of_one { line = 3; thread = 0; phase = 1; op = ops.Copy 0 1; answer = answers.Done (seen_at 16384 0 0x1000001) };
      stretch = Counted its_title Copy 0x1000001 0 ∷ [];
      saw = seen_number 1;
      gives = seen_number 2;
    }
    ∷ record {
      played = record of_one { line = 4; thread = 0; phase = 1; op = ops.Swap 0 1; answer = answers.Swapped 0 };
      stretch = exchanged 0 the_gift 2 ∷ [];
      saw = seen_number 2;
      gives = seen_number 2;
    }
    ∷ record {
      played = record of_one { line = 6; thread = 0; phase = 2; op = ops.Free 0; answer = answers.Done (seen_at 16384 0 0x2000003) };
      stretch = Counted its_title Free 0x2000003 0 ∷ [];
      saw = seen_number 2;
      gives = seen_number 3;
    }
    ∷ record {
      played = record of_one { line = 7; thread = 1; phase = 2; op = ops.Swap 0 0; answer = answers.Swapped 1 };
      stretch = exchanged 1 the_taking 2 ∷ [];
      saw = seen_number 2;
      gives = seen_number 2;
    }
    ∷ the_read
    ∷ record {
      played = record of_one {
        line = 10;
        thread = 1;
        phase = 3;
        op = ops.Read 0 0;
        answer = answers.Dangling (seen_at 16384 0 0x3000002) poison;
      };
      stretch = read_poison 0x3000002;
      saw = seen_number 3;
      gives = seen_number 3;
    }
    ∷ record {
      played = record of_one { line = 11; thread = 1; phase = 3; op = ops.Reset 0; answer = answers.Done (seen_at 16384 0 0x3000002) };
      stretch = Counted its_title Reset 0x3000002 0 ∷ [];
      saw = seen_number 3;
      gives = seen_number 4;
    }
    ∷ []

-- the eight records, with each title's numbers looked up in the notes
abbrev pub threads_told : List ToldRecord
threads_told = told_records threads_worked

-- with these records, a run with the lists that were worked out meets all that is required, if a line's place is its number
abbrev pub TwoThreadsArePlayedOut : Type 0
TwoThreadsArePlayedOut =
    (r : Run) →
    IsRunOf r (map entry_of two_threads_records) (two_threads_journal ∷ []) two_threads_pool (two_threads_history ∷ []) two_threads_report →
    IsPlayedOut sixteen (λ line. line) two_threads_trace (told_by r) (view_of threads_told) threads_told
