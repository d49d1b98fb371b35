-- The delayed run of a trace: a legal run, but for its caches and what its report counts as cached.
use Rattle.std.specs.Prelude.{◌≡◌, ℕ, zero, suc, ◌+◌, ◌==◌, if◌then◌else◌, List, [], ◌∷◌, map, All}
use Rattle.pa_slot.specs.Run.{IsLive, IsQuarantined}
use Rattle.pa_buckets.specs.Table.{slot_of}
use Rattle.pa_trace.specs.declared.script.Trace.{Trace}
use Rattle.pa_record.specs.declared.run.Run.{Run}
use Rattle.pa_record.specs.declared.pool.PoolEntry.{PoolEntry}
use Rattle.pa_record.specs.declared.numbered.Numbered.{Numbered}
use Rattle.pa_record.specs.declared.report.ReportLine.{ReportLine}
use Rattle.pa_record.specs.declared.report.Tally.{Tally}
use Rattle.pa_rules.specs.declared.played.Played.{Played}
use Rattle.pa_rules.specs.Told.{Told, told_by, records_of}
use Rattle.pa_rules.specs.Roots.{Journals}
use Rattle.pa_rules.specs.Caches.{Caches, no_caches, IsOfClass}
use Rattle.pa_rules.specs.Report.{until, IsTally, HasCensus, census_of, phases_of, cached_slots, cached_bytes}
use Rattle.pa_rules.specs.FileOrder.{IsInFileOrder}
use Rattle.pa_rules.specs.Legal.{phases_in}
use Rattle.pa_legal.specs.Known.{HasClauses}
use Rattle.pa_delay.specs.Delayed.{Queues, no_queues, DelayedTo}

-- n of these slots of a queue are partition p's, and have b bytes
abbrev pub QueuedOf : Journals → ℕ → List Numbered → ℕ → ℕ → Type 0
QueuedOf roots p [] n b = (n ≡ 0) × (b ≡ 0)
QueuedOf roots p (s ∷ ss) n b =
    (q class m a : ℕ) × IsOfClass roots s.slot q class × QueuedOf roots p ss m a × (n ≡ (if q == p then suc m else m))
    × (b ≡ (if q == p then slot_of class + a else a))

-- the queues of that many threads, from thread 0 on, have n slots of partition p, with b bytes
abbrev pub AllQueued : Journals → ℕ → Queues → ℕ → ℕ → ℕ → Type 0
AllQueued roots p waiting zero n b = (n ≡ 0) × (b ≡ 0)
AllQueued roots p waiting (suc t) n b =
    (k a m c : ℕ) × QueuedOf roots p (waiting t) k a × AllQueued roots p waiting t m c × (n ≡ k + m) × (b ≡ a + c)

-- the lists and the queues after these records hold this tally of partition p
abbrev pub IsDelayedTally : ℕ → ℕ → ℕ → Journals → List Played → ℕ → Tally → Type 0
IsDelayedTally bytes partitions threads roots ps p tally =
    (all : Caches) × (waiting : Queues) × (n b : ℕ) × DelayedTo bytes partitions roots no_caches no_queues ps all waiting
    × AllQueued roots p waiting threads n b × (tally.slots ≡ cached_slots all p threads + n)
    × (tally.bytes ≡ cached_bytes all p threads + b)

-- a line of the report, as in a run without queues but for what is cached
pub record IsDelayedLine (bytes partitions threads : ℕ) (ps : List Played) (pools : List PoolEntry) (roots : Journals)
    (l : ReportLine) : Type 0 where
  pub live : IsTally IsLive roots (until l.phase ps) l.partition l.live
  pub quarantined : IsTally IsQuarantined roots (until l.phase ps) l.partition l.quarantined
  pub cached : IsDelayedTally bytes partitions threads roots (until l.phase ps) l.partition l.cached
  pub root : HasCensus ps pools roots l.phase l.partition (census_of l)

-- the report of a delayed run has its phases and partitions in order, and each of its lines is right
pub record IsDelayedReport (bytes phases partitions threads : ℕ) (ps : List Played) (pools : List PoolEntry) (roots : Journals)
    (report : List ReportLine) : Type 0 where
  pub places : map (λ (l : ReportLine). (l.phase, l.partition)) report ≡ phases_of partitions 1 phases
  pub right : All (IsDelayedLine bytes partitions threads ps pools roots) report

-- from empty lists and queues on, the records and these journals lead to some lists and queues
abbrev pub AreDelayed : ℕ → ℕ → Journals → List Played → Type 0
AreDelayed bytes partitions roots ps =
    (after : Caches) × (left : Queues) × DelayedTo bytes partitions roots no_caches no_queues ps after left

-- The clauses of a legal run, with delayed rows in place of those of the caches, and with the report of a run with queues.
pub record IsDelayedBy (bytes : ℕ) (t : Trace) (r : Told) (ps : List Played) : Type 0 where
  pub clauses : HasClauses t r ps
  pub caches : AreDelayed bytes t.partitions r.roots ps
  pub report : IsDelayedReport bytes (phases_in t.lines) t.partitions t.threads ps r.pools r.roots r.report

-- the delayed run of the trace for this limit in bytes: with these clauses, and in the order of the trace's lines
abbrev pub IsDelayedTold : ℕ → Trace → Told → Type 0
IsDelayedTold bytes t r = IsDelayedBy bytes t r (records_of t r) × IsInFileOrder (records_of t r) r.pools r.roots r.cells

-- the run is the delayed run of the trace for that many bytes
abbrev pub IsDelayedRun : ℕ → Trace → Run → Type 0
IsDelayedRun bytes t r = IsDelayedTold bytes t (told_by r)
