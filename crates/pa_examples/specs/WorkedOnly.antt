-- The worked runs of one thread are the only legal ones of their traces.
use Rattle.std.specs.Prelude.{◌≡◌, ℕ, List, [], ◌∷◌, map}
use Rattle.pa_trace.specs.declared.script.Trace.{Trace}
use Rattle.pa_record.specs.declared.entry.Entry.{Entry}
use Rattle.pa_record.specs.declared.history.CellEntry.{CellEntry}
use Rattle.pa_record.specs.declared.pool.PoolEntry.{PoolEntry}
use Rattle.pa_record.specs.declared.root.RootEntry.{RootEntry}
use Rattle.pa_record.specs.declared.report.ReportLine.{ReportLine}
use Rattle.pa_record.specs.declared.run.Run.{Run}
use Rattle.pa_record.specs.RunText.{journal_of, history_of}
use Rattle.pa_record.specs.Worked.{direct_map_again_pool, direct_map_again_journal, purge_pool, purge_journal}
use Rattle.pa_rules.specs.Played.{entry_of}
use Rattle.pa_rules.specs.Roots.{journal_at}
use Rattle.pa_rules.specs.Cells.{history_at}
use Rattle.pa_rules.specs.Worked.{purge_records}
use Rattle.pa_rules.specs.Legal.{IsLegal}
use Rattle.pa_examples.specs.Worked.{direct_map_trace, direct_map_records, direct_map_report}
use Rattle.pa_examples.specs.WorkedWrites.{writes_trace, writes_records, writes_journal, writes_pool, writes_report}
use Rattle.pa_examples.specs.WorkedPurge.{purge_trace, purge_report}

-- the run has these lists, but for empty journals and histories after these
pub record Tells (r : Run) (told : List Entry) (journals : List (List RootEntry)) (pools : List PoolEntry)
    (exchanged : List (List CellEntry)) (lines : List ReportLine) : Type 0 where
  pub entries : r.entries.items ≡ told
  pub roots : (p : ℕ) → journal_of r p ≡ journal_at journals p
  pub pool : r.pool.items ≡ pools
  pub cells : (k : ℕ) → history_of r k ≡ history_at exchanged k
  pub report : r.report.items ≡ lines

-- each legal run of the trace has these lists, so with any other record, entry or number a run isn't legal
abbrev pub IsOnlyRun : Trace → List Entry → List (List RootEntry) → List PoolEntry → List (List CellEntry) → List ReportLine → Type 0
IsOnlyRun t told journals pools exchanged lines = (r : Run) → IsLegal t r → Tells r told journals pools exchanged lines

-- each legal run of the trace of direct maps has the lists of the worked one
abbrev pub OnlyDirectMaps : Type 0
OnlyDirectMaps = IsOnlyRun direct_map_trace (map entry_of direct_map_records)
    (direct_map_again_journal ∷ []) direct_map_again_pool [] direct_map_report

-- each legal run of the trace with writes has the lists of the worked one
abbrev pub OnlyWrites : Type 0
OnlyWrites = IsOnlyRun writes_trace (map entry_of writes_records) (writes_journal ∷ []) writes_pool [] writes_report

-- each legal run of the trace with a purge has the lists of the worked one
abbrev pub OnlyPurge : Type 0
OnlyPurge = IsOnlyRun purge_trace (map entry_of purge_records) (purge_journal ∷ []) purge_pool [] purge_report
