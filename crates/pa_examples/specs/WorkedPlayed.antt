-- Runs that were worked out by hand, which have a run of the core.
use Rattle.std.specs.Prelude.{List, [], ◌∷◌, map}
use Rattle.std.specs.Global.{Global}
use Rattle.pa_trace.specs.declared.script.Trace.{Trace}
use Rattle.pa_record.specs.declared.pool.PoolEntry.{PoolEntry}
use Rattle.pa_record.specs.declared.root.RootEntry.{RootEntry}
use Rattle.pa_record.specs.declared.report.ReportLine.{ReportLine}
use Rattle.pa_record.specs.declared.run.Run.{Run}
use Rattle.pa_record.specs.Worked.{direct_map_again_pool, direct_map_again_journal, purge_pool, purge_journal}
use Rattle.pa_rules.specs.declared.played.Played.{Played}
use Rattle.pa_rules.specs.Played.{entry_of}
use Rattle.pa_rules.specs.Worked.{purge_records}
use Rattle.pa_examples.specs.Worked.{IsRunOf, direct_map_trace, direct_map_records, direct_map_report}
use Rattle.pa_examples.specs.WorkedWrites.{writes_trace, writes_records, writes_journal, writes_pool, writes_report}
use Rattle.pa_examples.specs.WorkedPurge.{purge_trace, purge_report}
use Rattle.pa_core_run.specs.Playing.{HasCoreRun}

-- there is a run with just these lists, of one partition and no cell, whose vectors are of any heap, and it has a run of the core
abbrev pub IsPlayedRun : Trace → List Played → List RootEntry → List PoolEntry → List ReportLine → Type 0
IsPlayedRun t ps journal pools lines = (heap : Global) →
    (r : Run) × IsRunOf r (map entry_of ps) (journal ∷ []) pools [] lines × HasCoreRun t r

-- Three runs of one thread: direct maps that come and go, writes and reads, and a purge.
pub record WorkedRunsArePlayed : Type 0 where
  pub direct_maps : IsPlayedRun direct_map_trace direct_map_records direct_map_again_journal direct_map_again_pool direct_map_report
  pub writes : IsPlayedRun writes_trace writes_records writes_journal writes_pool writes_report
  pub purge : IsPlayedRun purge_trace purge_records purge_journal purge_pool purge_report
