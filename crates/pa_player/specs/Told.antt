-- What the run contains so far.
use Rattle.std.specs.Prelude.{ℕ, List, [], ◌∷◌, ◌++◌, slice_index_or, slice_set}
use Rattle.pa_record.specs.declared.entry.Entry.{Entry}
use Rattle.pa_record.specs.declared.history.CellEntry.{CellEntry}
use Rattle.pa_record.specs.declared.pool.PoolEntry.{PoolEntry}
use Rattle.pa_record.specs.declared.report.ReportLine.{ReportLine}
use Rattle.pa_record.specs.declared.root.RootEntry.{RootEntry}
use Rattle.pa_record.specs.declared.run.Run.{Run}
use Rattle.pa_run_writer.specs.Whole.{HasLists, IsTextOfLists}

-- The records, the journals by their partitions, the entries of the pool, the histories by their cells and the lines of the report, and
-- the number of the line that is played.
pub record Lists : Type 0 where
  pub entries : List Entry
  pub journals : List (List RootEntry)
  pub pools : List PoolEntry
  pub histories : List (List CellEntry)
  pub report : List ReportLine
  pub line : ℕ

-- the journal of partition q, and an empty one past the last
abbrev pub journal_in : Lists → ℕ → List RootEntry
journal_in t q = slice_index_or t.journals q []

-- the history of cell k, and an empty one past the last
abbrev pub history_in : Lists → ℕ → List CellEntry
history_in t k = slice_index_or t.histories k []

-- one more entry in the journal of partition q
abbrev pub with_act : ℕ → RootEntry → Lists → Lists
with_act q e t = record t { journals = slice_set t.journals q (journal_in t q ++ e ∷ []) }

-- one more entry in the history of cell k
abbrev pub with_exchange : ℕ → CellEntry → Lists → Lists
with_exchange k e t = record t { histories = slice_set t.histories k (history_in t k ++ e ∷ []) }

-- The lists without those that a part of a line may go on with before memory runs out: the journals,
-- the entries of the pool, the histories and the report.
abbrev pub told_before : Lists → Lists
told_before t = record t { journals = []; pools = []; histories = []; report = [] }

-- the run has these lists
abbrev pub IsToldRun : Lists → Run → Type 0
IsToldRun t r = HasLists t.entries t.journals t.pools t.histories t.report r

-- the bytes are the text of a run that has these lists
abbrev pub IsToldText : Lists → List ℕ → Type 0
IsToldText t bytes = IsTextOfLists t.entries t.journals t.pools t.histories t.report bytes
