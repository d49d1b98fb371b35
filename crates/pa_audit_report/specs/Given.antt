-- What the checker of the report is given: the clauses before it, in the words in which they are used.
use Rattle.std.specs.Prelude.{◌≡◌, ℕ, ◌<◌, List, All}
use Rattle.pa_slot.specs.Run.{Slots}
use Rattle.pa_trace.specs.declared.script.Trace.{Trace}
use Rattle.pa_record.specs.declared.pool.PoolEntry.{PoolEntry}
use Rattle.pa_record.specs.declared.root.RootEntry.{RootEntry}
use Rattle.pa_record.specs.declared.run.Run.{Run}
use Rattle.pa_rules.specs.declared.played.Played.{Played}
use Rattle.pa_rules.specs.declared.verdict.Clause.{Clause}
use Rattle.pa_rules.specs.declared.verdict.Clause.TheVariants as clauses
use Rattle.pa_rules.specs.declared.verdict.Place.TheVariants as places
use Rattle.pa_rules.specs.Played.{marks_of}
use Rattle.pa_rules.specs.Roots.{Journals, AreRoots, IsEntry, IsPoolOf}
use Rattle.pa_rules.specs.Flow.{IsInPhases}
use Rattle.pa_rules.specs.Rising.{RiseByLine}
use Rattle.pa_rules.specs.HeapDemands.{CachesDemand, EntryFits}
use Rattle.pa_rules.specs.Told.{records_of, told_by}
use Rattle.pa_rules.specs.Verdicts.{Holds, turn}
use Rattle.pa_audit_records.specs.Cuts.{RiseByPhase}
use Rattle.pa_audit_heap.specs.Replayed.{DoAllFit}
use Rattle.pa_audit_holders.specs.Rows.{IsOfThreads}

-- the clauses before the report hold
abbrev pub HoldBefore : Trace → Run → Type 0
HoldBefore t r = (d : Clause) → turn d < turn clauses.Report → Holds d t r

-- these are the run's records with the ops of the trace
abbrev pub AreRecordsOf : Trace → Run → List Played → Type 0
AreRecordsOf t r ps = ps ≡ records_of t (told_by r)

-- What the clauses before the report say of the records, the pool's entries and the journals.
--   rising, phased: lines and phases of the records rise
--   within: they are of at most 16 threads and four partitions, and of one version
--   slots: each slot's steps are one run
--   ordered: no record finds a lower number of a slot than one of an earlier phase left there
--   pool, journals, caches: three clauses of a legal run
--   fit, entries: each entry of the pool fits the pool, and each of a journal its root
pub record IsGiven (supers partitions : ℕ) (ps : List Played) (pools : List PoolEntry) (roots : Journals) : Type 0 where
  pub rising : RiseByLine ps
  pub phased : RiseByPhase ps
  pub version : ℕ
  pub within : All (IsOfThreads version) ps
  pub slots : Slots (marks_of ps)
  pub ordered : IsInPhases ps
  pub pool : IsPoolOf supers ps pools roots
  pub journals : AreRoots partitions ps pools roots
  pub caches : (i : ℕ) → CachesDemand partitions roots ps (places.Record i)
  pub fit : DoAllFit supers pools
  pub entries : (p j : ℕ) (e : RootEntry) → IsEntry roots p j e → EntryFits partitions ps pools roots p j e
