-- When bytes are the text of a run with some given lists.
use Rattle.std.specs.Prelude.{◌≡◌, ℕ, List}
use Rattle.pa_record.specs.declared.entry.Entry.{Entry}
use Rattle.pa_record.specs.declared.history.CellEntry.{CellEntry}
use Rattle.pa_record.specs.declared.pool.PoolEntry.{PoolEntry}
use Rattle.pa_record.specs.declared.report.ReportLine.{ReportLine}
use Rattle.pa_record.specs.declared.root.RootEntry.{RootEntry}
use Rattle.pa_record.specs.declared.run.Run.{Run}
use Rattle.pa_record.specs.RunText.{IsRunText}

-- the run has these records, journals, entries of the pool, histories and lines of the report
pub record HasLists (records : List Entry) (journals : List (List RootEntry)) (turns : List PoolEntry) (histories : List (List CellEntry))
    (lines : List ReportLine)
    (r : Run) : Type 0 where
  pub entries : r.entries.items ≡ records
  pub roots : r.roots.items ≡ journals
  pub pool : r.pool.items ≡ turns
  pub cells : r.cells.items ≡ histories
  pub report : r.report.items ≡ lines

-- the bytes are the text of a run that has these lists
pub record IsTextOfLists (records : List Entry) (journals : List (List RootEntry)) (turns : List PoolEntry)
    (histories : List (List CellEntry)) (lines : List ReportLine)
    (bytes : List ℕ) : Type 0 where
  pub run : Run
  pub lists : HasLists records journals turns histories lines run
  pub text : IsRunText run bytes
