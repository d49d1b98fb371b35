-- What is known of the end of each phase, for the report.
use Rattle.std.specs.Prelude.{◌≡◌, List, length}
use Rattle.pa_trace.specs.declared.script.Trace.{Trace}
use Rattle.pa_record.specs.declared.run.Run.{Run}
use Rattle.pa_rules.specs.declared.played.Played.{Played}
use Rattle.pa_rules.specs.Legal.{phases_in}
use Rattle.pa_rules.specs.Roots.{journal_at}
use Rattle.pa_audit_records.specs.ByKeys.{value_at}
use Rattle.pa_audit_records.specs.Cuts.{AreRecordCuts}
use Rattle.pa_audit_heap.specs.Censuses.{HaveAllCensuses}
use Rattle.pa_audit_holders.specs.Cached.{HaveCached}
use Rattle.pa_audit_holders.specs.Homes.{KnowsHomes}
use Rattle.pa_audit_report.specs.declared.known.Known.{Known}

-- the known ends of the phases are those of the records
pub record KnowsEnds (t : Trace) (ps : List Played) (k : Known) : Type 0 where
  pub ends : AreRecordCuts ps k.ends.items
  pub phases : length k.ends.items ≡ phases_in t.lines

-- the known censuses are those of the roots at the end of each phase, by the journals
abbrev pub KnowsCensuses : Trace → Run → List Played → Known → Type 0
KnowsCensuses t r ps k = HaveAllCensuses t.partitions (phases_in t.lines) ps r.pool.items (journal_at r.roots.items) k.censuses.items

-- the known homes are those of the slots, and the known tallies those of the threads' lists at the end of each phase
pub record KnowsLists (t : Trace) (r : Run) (ps : List Played) (k : Known) : Type 0 where
  pub homes : KnowsHomes (journal_at r.roots.items) (value_at k.homes)
  pub cached : HaveCached t.partitions t.threads (journal_at r.roots.items) ps k.cached.items
  pub listed : length k.cached.items ≡ phases_in t.lines

-- the ends of the phases, the censuses, the homes and the tallies are known
pub record KnowsHeap (t : Trace) (r : Run) (ps : List Played) (k : Known) : Type 0 where
  pub ends : KnowsEnds t ps k
  pub censuses : KnowsCensuses t r ps k
  pub lists : KnowsLists t r ps k
