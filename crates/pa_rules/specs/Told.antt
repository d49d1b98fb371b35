-- What a run contains, as lists.
use Rattle.std.specs.Prelude.{ℕ, List}
use Rattle.pa_trace.specs.declared.script.Trace.{Trace}
use Rattle.pa_trace.specs.Rules.{rules_of}
use Rattle.pa_record.specs.declared.entry.Entry.{Entry}
use Rattle.pa_record.specs.declared.history.CellEntry.{CellEntry}
use Rattle.pa_record.specs.declared.pool.PoolEntry.{PoolEntry}
use Rattle.pa_record.specs.declared.report.ReportLine.{ReportLine}
use Rattle.pa_record.specs.declared.run.Run.{Run}
use Rattle.pa_record.specs.RunText.{journal_of, history_of}
use Rattle.pa_rules.specs.declared.played.Played.{Played}
use Rattle.pa_rules.specs.Played.{played}
use Rattle.pa_rules.specs.Roots.{Journals}

-- The records, the journals by their partitions, the entries of the pool,
-- the histories by their cells, and the lines of the report.
pub record Told : Type 0 where
  pub entries : List Entry
  pub roots : Journals
  pub pools : List PoolEntry
  pub cells : ℕ → List CellEntry
  pub report : List ReportLine

-- the lists of a run, in which a journal or history that isn't there is empty
abbrev pub told_by : Run → Told
told_by r = record { entries = r.entries.items; roots = journal_of r; pools = r.pool.items; cells = history_of r; report = r.report.items }

-- a run's records with the ops of the trace
abbrev pub records_of : Trace → Told → List Played
records_of t r = played (rules_of t) t.lines r.entries
