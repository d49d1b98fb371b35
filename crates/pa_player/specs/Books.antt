-- The records and the journals that a player sent, whatever keeps them.
use Rattle.std.specs.Prelude.{List, [], ◌∷◌, ◌++◌, ℕ, slice_index_or, slice_set}
use Rattle.pa_record.specs.declared.entry.Entry.{Entry}
use Rattle.pa_record.specs.declared.root.RootEntry.{RootEntry}

-- the records so far, and the journals by their partitions
pub record Books : Type 0 where
  pub entries : List Entry
  pub journals : List (List RootEntry)

-- one more record
abbrev pub with_kept_entry : Entry → Books → Books
with_kept_entry e b = record b { entries = b.entries ++ e ∷ [] }

-- the entries of the journal of partition q
abbrev pub kept_acts : Books → ℕ → List RootEntry
kept_acts b q = slice_index_or b.journals q []

-- one more entry of the journal of partition q
abbrev pub with_kept_act : ℕ → RootEntry → Books → Books
with_kept_act q e b = record b { journals = slice_set b.journals q (kept_acts b q ++ e ∷ []) }
