-- A delayed run for 0 bytes is a legal run without queues.
use Rattle.std.proofs.Common.{◌≡◌, ℕ, zero, suc, List, [], refl, subst, arith}
use Rattle.std.proofs.lemmas.List.Elements.{All-weaker}
use Rattle.pa_record.specs.declared.pool.PoolEntry.{PoolEntry}
use Rattle.pa_record.specs.declared.report.ReportLine.{ReportLine}
use Rattle.pa_record.specs.declared.report.Tally.{Tally}
use Rattle.pa_record.specs.Root.{IsJournal}
use Rattle.pa_rules.specs.declared.played.Played.{Played}
use Rattle.pa_rules.specs.Roots.{Journals}
use Rattle.pa_rules.specs.Caches.{no_caches, AreCaches}
use Rattle.pa_rules.specs.Report.{until, IsCached, IsReportLine, IsReport}
use Rattle.pa_rules.specs.Told.{told_by, records_of}
use Rattle.pa_rules.specs.Legal.{phases_in}
use Rattle.pa_legal.proofs.Whole.{legal_follows}
use Rattle.pa_delay.specs.Delayed.{Queues, no_queues}
use Rattle.pa_delay.specs.Runs.{QueuedOf, AllQueued, IsDelayedTally, IsDelayedLine, IsDelayedReport, AreDelayed}
use Rattle.pa_delay.specs.Laws.{NoBytesNoDelay}
use Rattle.pa_delay.proofs.Zero.{walk_zero}

-- empty queues have no slots
none_queued : (roots : Journals) (p : ℕ) (waiting : Queues) → ((t : ℕ) → waiting t ≡ []) → (threads n b : ℕ) →
    AllQueued roots p waiting threads n b
    → (n ≡ 0) × (b ≡ 0)
none_queued roots p waiting empty zero n b none = none
none_queued roots p waiting empty (suc t) n b (k, a, m, c, here, rest, sum, bytes) =
    let (few, none) = subst (λ zs. QueuedOf roots p zs k a) (empty t) here in
    let (fewer, little) = none_queued roots p waiting empty t m c rest in
    (omega arith, omega arith)

module _ (pools : List PoolEntry) (roots : Journals) (journals : (p : ℕ) → IsJournal pools (roots p)) where
  caches_zero : (partitions : ℕ) (ps : List Played) → AreDelayed 0 partitions roots ps → AreCaches partitions roots ps
  caches_zero partitions ps (after, left, to) =
      (after, (walk_zero pools roots journals partitions no_caches no_queues ps after left (λ t. refl) to).0)

  tally_zero : (partitions threads : ℕ) (ps : List Played) (p : ℕ) (tally : Tally) → IsDelayedTally 0 partitions threads roots ps p tally
      → IsCached partitions threads roots ps p tally
  tally_zero partitions threads ps p tally (all, waiting, n, b, to, queued, slots, bytes) =
      let (here, empty) = walk_zero pools roots journals partitions no_caches no_queues ps all waiting (λ t. refl) to in
      let (few, none) = none_queued roots p waiting empty threads n b queued in
      (all, here, omega arith, omega arith)

  line_zero : (partitions threads : ℕ) (ps : List Played) (l : ReportLine) → IsDelayedLine 0 partitions threads ps pools roots l
      → IsReportLine partitions threads ps pools roots l
  line_zero partitions threads ps l is = record {
    live = is.live;
    quarantined = is.quarantined;
    cached = tally_zero partitions threads (until l.phase ps) l.partition l.cached is.cached;
    root = is.root;
  }

  report_zero : (phases partitions threads : ℕ) (ps : List Played) (report : List ReportLine)
      → IsDelayedReport 0 phases partitions threads ps pools roots report → IsReport phases partitions threads ps pools roots report
  report_zero phases partitions threads ps report is = record {
    places = is.places;
    right = All-weaker (IsDelayedLine 0 partitions threads ps pools roots) (IsReportLine partitions threads ps pools roots)
        (line_zero partitions threads ps) report is.right;
  }

pub no_bytes_no_delay : NoBytesNoDelay
no_bytes_no_delay t r (is, order) =
    let u = told_by r in
    let ps = records_of t u in
    let journals = is.clauses.roots.journals in (
      legal_follows t u is.clauses (caches_zero u.pools u.roots journals t.partitions ps is.caches)
          (report_zero u.pools u.roots journals (phases_in t.lines) t.partitions t.threads ps u.report is.report),
      order,
    )
