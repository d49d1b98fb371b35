-- The report, from what each thread, each root and the lists say at the end of each phase.
use Rattle.std.specs.Prelude.{◌≡◌, ℕ, zero, suc, ◌+◌, ◌-◌, ◌<◌, List, [], ◌∷◌, ◌++◌, Bool, map, Contains}
use Rattle.pa_slot.specs.declared.word.SlotName.{SlotName}
use Rattle.pa_slot.specs.declared.word.Step.{Step}
use Rattle.pa_slot.specs.Run.{Slots, IsLive, IsQuarantined}
use Rattle.pa_record.specs.declared.pool.PoolEntry.{PoolEntry}
use Rattle.pa_record.specs.declared.root.RootEntry.{RootEntry}
use Rattle.pa_record.specs.declared.report.ReportLine.{ReportLine}
use Rattle.pa_record.specs.declared.report.Tally.{Tally}
use Rattle.pa_record.specs.declared.census.Census.{Census}
use Rattle.pa_record.specs.Root.{new_root, root_replayed, IsJournal}
use Rattle.pa_record.specs.Census.{census}
use Rattle.pa_trace.specs.Limits.{most_partitions}
use Rattle.pa_region.specs.declared.view.Made.{Made}
use Rattle.pa_rules.specs.declared.played.Played.{Played}
use Rattle.pa_rules.specs.Played.{marks_of}
use Rattle.pa_rules.specs.Flow.{IsInPhases}
use Rattle.pa_rules.specs.Roots.{Journals, AreRoots, IsPoolOf}
use Rattle.pa_rules.specs.Caches.{Cache, Caches, CacheRow, no_caches}
use Rattle.pa_rules.specs.Report.{HasCensus, IsReport, IsTally, cached_slots, cached_bytes, census_of, phases_of, until}
use Rattle.pa_slot.specs.Kinds.{issues, frees, enters, leaves}
use Rattle.pa_legal.specs.Tallies.{weight_of, one_of, bytes_of, AreHomes}
use Rattle.pa_logs.specs.Told.{ToldRecord, played_in, told_until}
use Rattle.pa_logs.specs.Listed.{IsListOf, IsJournalOf, IsPoolList}
use Rattle.pa_logs.specs.Rows.{records_by}
use Rattle.pa_logs.specs.Indices.{AreLists}

-- at the end of a phase the list was a beginning of what it became, and that of the records so far
pub record CutAt (q phase : ℕ) (list : List Made) (ts : List ToldRecord) : Type 0 where
  pub older : List Made
  pub rest : List Made
  pub begins : list ≡ older ++ rest
  pub is : IsListOf q older (told_until phase ts)

-- What the census of root p was taken of at the end of a phase: its journal so far, which its list is in numbers, with the
-- pool's entries that its seat had seen, a beginning of all.
pub record TakenAt (p phase : ℕ) (lists : ℕ → List Made) (ts : List ToldRecord) (c : Census) : Type 0 where
  pub cut : CutAt p phase (lists p) ts
  pub journal : List RootEntry
  pub journal_is : IsJournalOf cut.older journal
  pub seen : List Made
  pub unseen : List Made
  pub begins : lists 4 ≡ seen ++ unseen
  pub pool : List PoolEntry
  pub pool_is : IsPoolList seen pool
  pub replays : IsJournal pool journal
  pub taken : c ≡ census (root_replayed pool journal new_root)

-- the total weight of the slots with a step that passes, as the first threads count those of their own records
abbrev pub counted_by : (Step → ℕ → Bool) → (SlotName → ℕ) → List Played → ℕ → ℕ
counted_by test weight xs zero = 0
counted_by test weight xs (suc k) = weight_of test weight (marks_of (records_by k xs)) + counted_by test weight xs k

-- the tally is what went in minus what went out, by the threads' counts
pub record IsLeftBy (into out : Step → ℕ → Bool) (home size : SlotName → ℕ) (p threads : ℕ) (xs : List Played)
    (tally : Tally) : Type 0 where
  pub slots : tally.slots ≡ counted_by into (one_of home p) xs threads - counted_by out (one_of home p) xs threads
  pub bytes : tally.bytes ≡ counted_by into (bytes_of home size p) xs threads - counted_by out (bytes_of home size p) xs threads

-- record by record of one thread its lists lead to these
abbrev pub CacheLeadsTo : ℕ → Journals → Cache → List Played → Cache → Type 0
CacheLeadsTo partitions roots cache [] after = after ≡ cache
CacheLeadsTo partitions roots cache (x ∷ xs) after =
    (next : Cache) × CacheRow partitions roots x x.answer cache next × CacheLeadsTo partitions roots next xs after

-- each thread's lists after these records, and what they hold of partition p together
pub record AreListed (partitions threads : ℕ) (roots : Journals) (xs : List Played) (p : ℕ) (tally : Tally) : Type 0 where
  pub all : Caches
  pub each : (k : ℕ) → CacheLeadsTo partitions roots (no_caches k) (records_by k xs) (all k)
  pub slots : tally.slots ≡ cached_slots all p threads
  pub bytes : tally.bytes ≡ cached_bytes all p threads

-- A line of the report, but for its cached slots, is what threads and roots say at the end of its phase: live and quarantined slots by
-- the steps that the threads count, and what the root has by its census.
pub record IsLineTold (threads : ℕ) (home size : SlotName → ℕ) (lists : ℕ → List Made) (ts : List ToldRecord)
    (l : ReportLine) : Type 0 where
  pub partition : l.partition < most_partitions
  pub live : IsLeftBy issues frees home size l.partition threads (until l.phase (played_in ts)) l.live
  pub quarantined : IsLeftBy enters leaves home size l.partition threads (until l.phase (played_in ts)) l.quarantined
  pub root : TakenAt l.partition l.phase lists ts (census_of l)

-- A line of the report is right but for its cached slots, which the threads' lists tell, or lists and queues.
pub record IsLineShared (ps : List Played) (pools : List PoolEntry) (roots : Journals) (l : ReportLine) : Type 0 where
  pub live : IsTally IsLive roots (until l.phase ps) l.partition l.live
  pub quarantined : IsTally IsQuarantined roots (until l.phase ps) l.partition l.quarantined
  pub root : HasCensus ps pools roots l.phase l.partition (census_of l)

-- What is known of the run: its lists, journals, pool and slots, and the partition and length of each slot. Records are in phases,
-- and each thread's number is below `threads`.
pub record AreReported (supers partitions threads : ℕ) (home size : SlotName → ℕ) (lists : ℕ → List Made) (pools : List PoolEntry)
    (roots : Journals) (ts : List ToldRecord) : Type 0 where
  pub lists_are : AreLists lists pools roots ts
  pub journals : AreRoots partitions (played_in ts) pools roots
  pub pool : IsPoolOf supers (played_in ts) pools roots
  pub slots : Slots (marks_of (played_in ts))
  pub phases : IsInPhases (played_in ts)
  pub homes : AreHomes roots home size (marks_of (played_in ts))
  pub few : (x : ToldRecord) → Contains ts x → x.played.thread < threads

-- Each line of the report is right, and so is the report.
--   census: what a root's census was taken of is its journal up to the end of the phase
--   line: a line that says so is right but for its cached slots
--   report: the report of such lines, one for each phase and partition in order, is right, if their cached slots are those of lists
pub record ReportFollows : Type 0 where
  pub census : (p phase : ℕ) (lists : ℕ → List Made) (pools : List PoolEntry) (roots : Journals) (ts : List ToldRecord) (c : Census) →
      AreLists lists pools roots ts → p < most_partitions → TakenAt p phase lists ts c → HasCensus (played_in ts) pools roots phase p c
  pub line : (supers partitions threads : ℕ) (home size : SlotName → ℕ) (lists : ℕ → List Made) (pools : List PoolEntry) (roots : Journals)
      (ts : List ToldRecord) (l : ReportLine) → AreReported supers partitions threads home size lists pools roots ts →
      IsLineTold threads home size lists ts l → IsLineShared (played_in ts) pools roots l
  pub report : (phases partitions threads : ℕ) (ps : List Played) (pools : List PoolEntry) (roots : Journals) (lines : List ReportLine) →
      map (λ (l : ReportLine). (l.phase, l.partition)) lines ≡ phases_of partitions 1 phases →
      ((l : ReportLine) → Contains lines l → IsLineShared ps pools roots l) →
      ((l : ReportLine) → Contains lines l → AreListed partitions threads roots (until l.phase ps) l.partition l.cached) →
      IsReport phases partitions threads ps pools roots lines
