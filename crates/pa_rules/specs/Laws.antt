-- The laws of titles and super pages over all partitions, and of the report.
use Rattle.std.specs.Prelude.{◌≡◌, ◌≢◌, ℕ, ◌+◌, ◌<◌, List, map, length, All, AllPairs, Contains, Some, slice_get}
use Rattle.pa_trace.specs.declared.script.Trace.{Trace}
use Rattle.pa_trace.specs.declared.script.Rules.{Rules}
use Rattle.pa_trace.specs.declared.script.Line.{Line}
use Rattle.pa_trace.specs.Limits.{IsWithinLimits}
use Rattle.pa_record.specs.declared.pool.PoolEntry.{PoolEntry}
use Rattle.pa_slot.specs.Run.{Slots}
use Rattle.pa_record.specs.declared.report.ReportLine.{ReportLine}
use Rattle.pa_record.specs.declared.root.RootEntry.{RootEntry}
use Rattle.pa_record.specs.declared.entry.Entry.{Entry}
use Rattle.pa_record.specs.Root.{new_root, root_replayed}
use Rattle.pa_record.specs.Laws.{slots_made}
use Rattle.pa_rules.specs.declared.played.Played.{Played}
use Rattle.pa_rules.specs.Played.{AreLines, AreDue, entry_of, played, marks_of}
use Rattle.pa_rules.specs.Roots.{Journals, AreRoots, IsPoolOf, Names, AreAllTitles}
use Rattle.pa_rules.specs.Report.{IsReportLine, AreUntil}
use Rattle.pa_rules.specs.Flow.{IsInPhases}
use Rattle.pa_rules.specs.Told.{Told, records_of}
use Rattle.pa_rules.specs.Legal.{IsLegalTold}

-- It follows from the journals and the pool that titles lie apart. An entry of the pool that a journal names is one of its own
-- partition. So, as no super page is in two runs that are taken, a partition's super pages are its own.
pub record TitlesFollow : Type 0 where
  pub titles : (supers partitions : ℕ) (ps : List Played) (pools : List PoolEntry) (roots : Journals) →
      AreRoots partitions ps pools roots → IsPoolOf supers ps pools roots → AreAllTitles pools roots
  pub own : (supers : ℕ) (ps : List Played) (pools : List PoolEntry) (roots : Journals) (p i j : ℕ) (e : PoolEntry) →
      IsPoolOf supers ps pools roots → Names roots p i j → slice_get pools j ≡ Some e → e.partition ≡ p

-- each record of a trace has a line of its own
abbrev pub LinesDiffer : Type 0
LinesDiffer = (rules : Rules) (ls : List Line) (ps : List Played) → AreLines rules ls ps → AllPairs (λ (x y : Played). x.line ≢ y.line) ps

-- The four counts of a line of the report add up, if each record's line is its own and each slot's steps are one run,
-- in the order of the phases: live, quarantined and cached slots and those with the root are together the slots that were
-- made and the direct maps that are mapped at the end of the phase.
abbrev pub PlacesAddUp : Type 0
PlacesAddUp =
    (supers partitions threads : ℕ) (ps : List Played) (pools : List PoolEntry) (roots : Journals) (l : ReportLine)
    (before : List RootEntry) →
    AreRoots partitions ps pools roots → IsPoolOf supers ps pools roots → AllPairs (λ (x y : Played). x.line ≢ y.line) ps →
    All (λ (x : Played). x.thread < threads) ps → Slots (marks_of ps) → IsInPhases ps → l.partition < partitions →
    IsReportLine partitions threads ps pools roots l → AreUntil ps l.phase (roots l.partition) before →
    l.live.slots + l.quarantined.slots + l.cached.slots + l.root.slots
    ≡ slots_made (root_replayed pools before new_root) + length (root_replayed pools before new_root).maps

-- The counts of every line of a legal run's report add up.
abbrev pub ReportAddsUp : Type 0
ReportAddsUp =
    (t : Trace) (r : Told) (l : ReportLine) → IsWithinLimits t → IsLegalTold t r → Contains r.report l →
    (before : List RootEntry) × AreUntil (records_of t r) l.phase (r.roots l.partition) before
    × (l.live.slots + l.quarantined.slots + l.cached.slots + l.root.slots
    ≡ slots_made (root_replayed r.pools before new_root) + length (root_replayed r.pools before new_root).maps)

-- The records that are due are all of the trace's op lines and all of the run's,
-- and lists of which this holds are the records with their ops.
pub record RecordsAreLines : Type 0 where
  pub lines : (rules : Rules) (ls : List Line) (es : List Entry) → AreDue rules ls es → AreLines rules ls (played rules ls es)
  pub told : (rules : Rules) (ls : List Line) (es : List Entry) → AreDue rules ls es → map entry_of (played rules ls es) ≡ es
  pub due : (rules : Rules) (ls : List Line) (ps : List Played) → AreLines rules ls ps → AreDue rules ls (map entry_of ps)
  pub same : (rules : Rules) (ls : List Line) (ps : List Played) → AreLines rules ls ps → played rules ls (map entry_of ps) ≡ ps
