-- The report that is due, by partitions and by phases.
use Rattle.std.specs.Prelude.{◌≡◌, ℕ, ◌+◌, List, ◌++◌, All, length, map}
use Rattle.pa_record.specs.declared.census.Census.{Census}
use Rattle.pa_record.specs.declared.pool.PoolEntry.{PoolEntry}
use Rattle.pa_record.specs.declared.report.ReportLine.{ReportLine}
use Rattle.pa_record.specs.declared.report.Tally.{Tally}
use Rattle.pa_rules.specs.declared.played.Played.{Played}
use Rattle.pa_rules.specs.Roots.{Journals}
use Rattle.pa_rules.specs.Report.{IsReportLine, partitions_of, phases_of}
use Rattle.pa_audit_report.specs.declared.counts.InUse.{InUse}
use Rattle.pa_audit_records.specs.Cuts.{HasEach}

-- the line of a partition at the end of a phase
abbrev pub line_by : ℕ → ℕ → InUse → Tally → Census → ReportLine
line_by phase p used cached c = record {
  phase = phase;
  partition = p;
  live = used.live;
  quarantined = used.quarantined;
  cached = cached;
  root = c.root;
  committed = c.committed;
  reserved = c.reserved;
  full = c.full;
  active = c.active;
  empty = c.empty;
  decommitted = c.decommitted;
}

-- a line is of phase n and partition p, and right
pub record IsDueAt (partitions threads : ℕ) (ps : List Played) (pools : List PoolEntry) (roots : Journals) (phase p : ℕ)
    (l : ReportLine) : Type 0 where
  pub phase_is : l.phase ≡ phase
  pub partition_is : l.partition ≡ p
  pub right : IsReportLine partitions threads ps pools roots l

-- the lines of partition p, from phase 1 on
abbrev pub IsColumn : ℕ → ℕ → List Played → List PoolEntry → Journals → ℕ → List ReportLine → Type 0
IsColumn partitions threads ps pools roots p lines = HasEach (λ i l. IsDueAt partitions threads ps pools roots (i + 1) p l) lines

-- the lines of each of the first `n` partitions, from phase 1 on
pub record AreColumns (phases partitions threads : ℕ) (ps : List Played) (pools : List PoolEntry) (roots : Journals)
    (n : ℕ) (columns : List (List ReportLine)) : Type 0 where
  pub many : length columns ≡ n
  pub each : HasEach (λ p lines. IsColumn partitions threads ps pools roots p lines × (length lines ≡ phases)) columns

-- the lines of the first phases, and those of the next one's first partitions
abbrev pub phases_to : ℕ → ℕ → ℕ → List (ℕ × ℕ)
phases_to partitions i p = phases_of partitions 1 i ++ partitions_of (i + 1) 0 p

-- the lines are those of the first i phases and of the next one's first p partitions, in order, and each is right
pub record IsReportTo (partitions threads : ℕ) (ps : List Played) (pools : List PoolEntry) (roots : Journals) (i p : ℕ)
    (lines : List ReportLine) : Type 0 where
  pub places : map (λ (l : ReportLine). (l.phase, l.partition)) lines ≡ phases_to partitions i p
  pub right : All (IsReportLine partitions threads ps pools roots) lines

-- whatever run has these columns, the lines are its report up to partition p of the phase after the first i
abbrev pub GathersTo : ℕ → ℕ → List (List ReportLine) → ℕ → ℕ → List ReportLine → Type 0
GathersTo phases partitions columns i p lines =
    (threads : ℕ) (ps : List Played) (pools : List PoolEntry) (roots : Journals) →
    AreColumns phases partitions threads ps pools roots partitions columns → IsReportTo partitions threads ps pools roots i p lines
