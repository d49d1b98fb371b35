-- A delayed run that was worked out by hand, for 16 bytes: two objects, each freed, and a third. The first slot waits, and leaves the
-- queue as the second comes to it; so the second object gets another slot, and the third one gets the first slot.
use Rattle.std.specs.Prelude.{ℕ, List, [], ◌∷◌, Some}
use Rattle.pa_trace.specs.declared.script.Op.TheVariants as ops
use Rattle.pa_record.specs.declared.entry.Seen.{Seen}
use Rattle.pa_record.specs.declared.entry.Answer.TheVariants as answers
use Rattle.pa_record.specs.declared.numbered.Numbered.{Numbered}
use Rattle.pa_record.specs.declared.root.RootEntry.{RootEntry}
use Rattle.pa_record.specs.Worked.{slots, fill}
use Rattle.pa_rules.specs.declared.played.Played.{Played}
use Rattle.pa_rules.specs.Roots.{Journals, journal_at}
use Rattle.pa_rules.specs.Worked.{first_slot, of_first_thread}
use Rattle.pa_delay.specs.Runs.{AreDelayed, IsDelayedTally}

-- the second slot, with this word
abbrev pub later_slot : ℕ → Seen
later_slot word = record { slot = record { start = 16400; born = 0 }; found = record { 0 = word } }

-- the five records of the delayed run, on lines 2 to 6: two slots are made and freed in turn,
-- and then the first slot is made again
abbrev pub waiting_records : List Played
waiting_records =
    of_first_thread 2 (ops.Alloc 0 0 8) (answers.Made (first_slot 0) 8)
    ∷ of_first_thread 3 (ops.Free 0) (answers.Done (first_slot 16777217))
    ∷ of_first_thread 4 (ops.Alloc 1 0 8) (answers.Made (later_slot 0) 8)
    ∷ of_first_thread 5 (ops.Free 1) (answers.Done (later_slot 16777217))
    ∷ of_first_thread 6 (ops.Alloc 2 0 8) (answers.Made (first_slot 33554432) 8)
    ∷ []

-- the eight slots of 16 bytes that the one fill of the delayed run takes
abbrev pub waiting_fill : List Numbered
waiting_fill = slots 0 0 (16384 ∷ 16400 ∷ 16416 ∷ 16432 ∷ 16448 ∷ 16464 ∷ 16480 ∷ 16496 ∷ [])

-- the journal of partition 0: one fill of class 0 on line 2, which names entry 0 of the pool
abbrev pub waiting_journal : List RootEntry
waiting_journal = fill 2 0 (Some 0) waiting_fill ∷ []

-- the journals of the delayed run, of which only that of partition 0 has an entry
abbrev pub waiting_roots : Journals
waiting_roots = journal_at (waiting_journal ∷ [])

-- Rows and report can be met: each record's row holds, and at the end six slots in a list and one in a queue are cached.
pub record OneWaits : Type 0 where
  pub rows : AreDelayed 16 1 waiting_roots waiting_records
  pub cached : IsDelayedTally 16 1 1 waiting_roots waiting_records 0 (record { slots = 7; bytes = 112 })
