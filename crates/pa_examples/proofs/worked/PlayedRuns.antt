-- The worked runs of one thread have a run of the core.
use Rattle.std.proofs.Common.{List, [], ◌∷◌, map}
use Rattle.pa_trace.specs.declared.script.Trace.{Trace}
use Rattle.pa_record.specs.declared.pool.PoolEntry.{PoolEntry}
use Rattle.pa_record.specs.declared.root.RootEntry.{RootEntry}
use Rattle.pa_record.specs.declared.report.ReportLine.{ReportLine}
use Rattle.pa_record.specs.declared.run.Run.{Run}
use Rattle.pa_rules.specs.declared.played.Played.{Played}
use Rattle.pa_rules.specs.Played.{entry_of}
use Rattle.pa_rules.specs.Legal.{IsFileRun}
use Rattle.pa_rules.specs.Worked.{purge_records}
use Rattle.pa_examples.specs.Worked.{IsRunOf, IsTold, direct_map_records}
use Rattle.pa_examples.specs.WorkedWrites.{writes_records}
use Rattle.pa_examples.proofs.worked.Told.{direct_map_is_told}
use Rattle.pa_examples.proofs.worked.Runs.{direct_map_is_filed}
use Rattle.pa_examples.proofs.worked.WritesFiled.{writes_are_told, writes_are_filed}
use Rattle.pa_examples.proofs.worked.PurgeFiled.{purge_is_told, purge_is_filed}
use Rattle.pa_examples.specs.WorkedPlayed.{IsPlayedRun, WorkedRunsArePlayed}
use Rattle.pa_core_run.proofs.Whole.{files_are_played}

told_is_played : (t : Trace) (ps : List Played) (journal : List RootEntry) (pools : List PoolEntry) (lines : List ReportLine) →
    IsTold t (map entry_of ps) (journal ∷ []) pools [] lines →
    ((r : Run) → IsRunOf r (map entry_of ps) (journal ∷ []) pools [] lines → IsFileRun t r) → IsPlayedRun t ps journal pools lines
told_is_played t ps journal pools lines told files heap =
    let (r, in_bits, tells) = told.run heap in
    (r, tells, files_are_played t r told.limits (files r tells))

pub worked_are_played : WorkedRunsArePlayed
worked_are_played = record {
  direct_maps = told_is_played _ direct_map_records _ _ _ direct_map_is_told direct_map_is_filed;
  writes = told_is_played _ writes_records _ _ _ writes_are_told writes_are_filed;
  purge = told_is_played _ purge_records _ _ _ purge_is_told purge_is_filed;
}
