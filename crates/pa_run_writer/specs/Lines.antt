-- When bytes are the text of what was reported so far.
use Rattle.std.specs.Prelude.{◌≡◌, ℕ, ◌+◌, List, [], ◌∷◌, ◌++◌, codes, length}
use Rattle.std.specs.List.{AllByRecursion, flat_map}
use Rattle.pa_record.specs.declared.entry.Entry.{Entry}
use Rattle.pa_record.specs.declared.root.RootEntry.{RootEntry}
use Rattle.pa_record.specs.Bits.{EntryInBits, RootInBits}
use Rattle.pa_record.specs.Text.{entry_text, journal_text}

-- the bytes are a run's first line and the lines of these records
pub record IsRecordsText (entries : List Entry) (bytes : List ℕ) : Type 0 where
  pub fits : AllByRecursion EntryInBits entries
  pub text : bytes ≡ codes "run 1\n" ++ flat_map entry_text entries

-- what one root did so far: the partition, and the entries of its journal
pub record OneJournal : Type 0 where
  pub partition : ℕ
  pub entries : List RootEntry

-- the bytes are the lines of this journal, which has that many entries
pub record IsJournalText (journal : OneJournal) (len : ℕ) (bytes : List ℕ) : Type 0 where
  pub fits : AllByRecursion RootInBits journal.entries
  pub count : length journal.entries ≡ len
  pub text : bytes ≡ journal_text journal.partition journal.entries

-- the journals are those of the partitions from p on, in order
abbrev pub AreFrom : ℕ → List OneJournal → Type 0
AreFrom p [] = Unit {0}
AreFrom p (j ∷ js) = (j.partition ≡ p) × AreFrom (p + 1) js
