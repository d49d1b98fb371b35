-- The worked runs of one thread are the only legal ones: each legal run is the one in the order of the lines, and so is
-- what was worked out.
use Rattle.std.proofs.Common.{◌≡◌, List, [], ◌∷◌, map, refl, sym, ◌∙◌, ap}
use Rattle.pa_trace.specs.declared.script.Trace.{Trace}
use Rattle.pa_record.specs.declared.entry.Entry.{Entry}
use Rattle.pa_record.specs.declared.history.CellEntry.{CellEntry}
use Rattle.pa_record.specs.declared.pool.PoolEntry.{PoolEntry}
use Rattle.pa_record.specs.declared.root.RootEntry.{RootEntry}
use Rattle.pa_record.specs.declared.report.ReportLine.{ReportLine}
use Rattle.pa_record.specs.declared.run.Run.{Run}
use Rattle.pa_record.specs.RunText.{IsSameRun}
use Rattle.pa_record.specs.Worked.{direct_map_again_pool, direct_map_again_journal, purge_pool, purge_journal}
use Rattle.pa_rules.specs.Played.{entry_of}
use Rattle.pa_rules.specs.Told.{told_by}
use Rattle.pa_rules.specs.Roots.{journal_at}
use Rattle.pa_rules.specs.Cells.{history_at}
use Rattle.pa_rules.specs.Worked.{purge_records}
use Rattle.pa_rules.specs.Legal.{IsFileRun}
use Rattle.pa_examples.specs.Worked.{IsRunOf, IsTold, direct_map_trace, direct_map_records, direct_map_report}
use Rattle.pa_examples.specs.WorkedWrites.{writes_trace, writes_records, writes_journal, writes_pool, writes_report}
use Rattle.pa_examples.specs.WorkedPurge.{purge_trace, purge_report}
use Rattle.pa_examples.specs.WorkedOnly.{Tells, IsOnlyRun, OnlyDirectMaps, OnlyWrites, OnlyPurge}
use Rattle.pa_one_run.proofs.OneRun.{one_file_run}
use Rattle.pa_one_run.proofs.OneThread.{one_thread}
use Rattle.pa_examples.proofs.worked.Runs.{direct_map_is_filed}
use Rattle.pa_examples.proofs.worked.Told.{direct_map_is_told}
use Rattle.pa_examples.proofs.worked.WritesFiled.{writes_are_told, writes_are_filed}
use Rattle.pa_examples.proofs.worked.PurgeFiled.{purge_is_told, purge_is_filed}

module _ (told : List Entry) (journals : List (List RootEntry)) (pools : List PoolEntry) (exchanged : List (List CellEntry))
    (heaps : List ReportLine) where
  tells : (a r : Run) → IsSameRun a r → IsRunOf a told journals pools exchanged heaps → Tells r told journals pools exchanged heaps
  tells a r same is = record {
    entries = sym same.entries ∙ is.entries;
    roots = λ p. sym (same.roots p) ∙ ap (λ js. journal_at js p) is.roots;
    pool = sym same.pool ∙ is.pool;
    cells = λ k. sym (same.cells k) ∙ ap (λ cs. history_at cs k) is.cells;
    report = sym same.report ∙ is.report;
  }

  only_run : (t : Trace) → t.threads ≡ 1 → IsTold t told journals pools exchanged heaps →
      ((a : Run) → IsRunOf a told journals pools exchanged heaps → IsFileRun t a) →
      IsOnlyRun t told journals pools exchanged heaps
  only_run t one is_told filed r legal =
      let (a, fits, is) = is_told.run r.entries.alloc in
      tells a r (one_file_run t a r is_told.limits (filed a is) (legal, one_thread t (told_by r) is_told.limits one legal)) is

pub only_direct_maps : OnlyDirectMaps
only_direct_maps =
    only_run (map entry_of direct_map_records) (direct_map_again_journal ∷ []) direct_map_again_pool
    [] direct_map_report direct_map_trace refl direct_map_is_told direct_map_is_filed

pub only_writes : OnlyWrites
only_writes = only_run (map entry_of writes_records) (writes_journal ∷ []) writes_pool
    [] writes_report writes_trace refl writes_are_told writes_are_filed

pub only_purge : OnlyPurge
only_purge = only_run (map entry_of purge_records) (purge_journal ∷ []) purge_pool
    [] purge_report purge_trace refl purge_is_told purge_is_filed
