-- What the reader has gathered of a run.
use Rattle.std.specs.Prelude.{◌≡◌, ◌<◌, List, [], ◌∷◌, ◌++◌, length, slice_index_or, slice_set}
use Rattle.std.specs.List.{All}
use Rattle.pa_record.specs.declared.entry.Entry.{Entry}
use Rattle.pa_record.specs.declared.root.RootEntry.{RootEntry}
use Rattle.pa_record.specs.declared.pool.PoolEntry.{PoolEntry}
use Rattle.pa_record.specs.declared.history.CellEntry.{CellEntry}
use Rattle.pa_record.specs.declared.report.ReportLine.{ReportLine}
use Rattle.pa_record.specs.declared.run.Run.{Run}
use Rattle.pa_trace.specs.Limits.{cell_count, most_partitions}
use Rattle.pa_run_reader.specs.declared.item.Item.{Item}
use Rattle.pa_run_reader.specs.declared.item.Item.TheVariants.{Head, Record, Root, Pool, Cell, Report, End}

-- the records, the journals by their partitions, the entries of the pool, the histories by their cells, and the lines of the report
pub record Gathered : Type 0 where
  pub entries : List Entry
  pub roots : List (List RootEntry)
  pub pool : List PoolEntry
  pub cells : List (List CellEntry)
  pub report : List ReportLine

-- what was gathered, with the item appended to its list
abbrev pub gathered_with : Item → Gathered → Gathered
gathered_with Head g = g
gathered_with (Record entry) g = record g { entries = g.entries ++ entry ∷ [] }
gathered_with (Root partition index entry) g =
    record g { roots = slice_set g.roots partition (slice_index_or g.roots partition [] ++ entry ∷ []) }
gathered_with (Pool index entry) g = record g { pool = g.pool ++ entry ∷ [] }
gathered_with (Cell cell index entry) g =
    record g { cells = slice_set g.cells cell (slice_index_or g.cells cell [] ++ entry ∷ []) }
gathered_with (Report line) g = record g { report = g.report ++ line ∷ [] }
gathered_with End g = g

-- the item's journal or history is there
abbrev pub HasListOf : Item → Gathered → Type 0
HasListOf Head g = Unit {0}
HasListOf (Record entry) g = Unit {0}
HasListOf (Root partition index entry) g = partition < length g.roots
HasListOf (Pool index entry) g = Unit {0}
HasListOf (Cell cell index entry) g = cell < length g.cells
HasListOf (Report line) g = Unit {0}
HasListOf End g = Unit {0}

-- nothing is gathered: there are 4 empty journals and 64 empty histories
pub record IsUngathered (g : Gathered) : Type 0 where
  pub entries : g.entries ≡ []
  pub journals : length g.roots ≡ most_partitions
  pub roots : All (λ journal. journal ≡ []) g.roots
  pub pool : g.pool ≡ []
  pub histories : length g.cells ≡ cell_count
  pub cells : All (λ history. history ≡ []) g.cells
  pub report : g.report ≡ []

-- the run has these lists
pub record TellsGathered (g : Gathered) (r : Run) : Type 0 where
  pub entries : r.entries.items ≡ g.entries
  pub roots : r.roots.items ≡ g.roots
  pub pool : r.pool.items ≡ g.pool
  pub cells : r.cells.items ≡ g.cells
  pub report : r.report.items ≡ g.report
