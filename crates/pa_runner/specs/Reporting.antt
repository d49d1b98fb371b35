-- The lines of the report at the end of a phase, when all workers have handed over and a main seat has every stake.
use Rattle.std.specs.Prelude.{◌≡◌, ℕ, ◌+◌, ◌-◌, ◌*◌, List, ◌++◌, map, Contains}
use Rattle.pa_record.specs.declared.report.ReportLine.{ReportLine}
use Rattle.pa_region.specs.declared.view.View.{View}
use Rattle.pa_region.specs.Lending.{Keeps}
use Rattle.pa_region.specs.Takes.{log_of}
use Rattle.pa_rules.specs.Report.{partitions_of, census_of}
use Rattle.pa_totals.specs.Settled.{added_in}
use Rattle.pa_op_specs.specs.declared.counts.Count.{Count}
use Rattle.pa_op_specs.specs.Counts.{counted_in}
use Rattle.pa_thread_state.specs.Censuses.{TellsCensus, HasSameLists}
use Rattle.pa_op_specs.specs.Workers.{WorkerValue}
use Rattle.pa_execution.specs.Lines.{sum_over, IsLiveOf, IsQuarantinedOf, IsCachedBy}

-- The first `threads` workers counted this many slots of partition p.
abbrev pub IsCountedBy : (part : Count → ℕ) → (p threads : ℕ) → (workers : ℕ → WorkerValue) → (slots : ℕ) → Type 0
IsCountedBy part p threads workers slots = slots ≡ sum_over (λ k. part (counted_in (workers k).counts p)) threads

-- each of the four counts is what the first `threads` workers counted of partition p
pub record AreCountedBy (p threads : ℕ) (workers : ℕ → WorkerValue) (count : Count) : Type 0 where
  pub issued : IsCountedBy (λ (n : Count). n.issued) p threads workers count.issued
  pub freed : IsCountedBy (λ (n : Count). n.freed) p threads workers count.freed
  pub entered : IsCountedBy (λ (n : Count). n.entered) p threads workers count.entered
  pub left : IsCountedBy (λ (n : Count). n.left) p threads workers count.left

-- These are the live bytes of partition p, and the quarantined ones, by what the logs of a seat added to the totals words.
pub record IsBalance (p : ℕ) (seat : View) (bytes : ℕ × ℕ) : Type 0 where
  pub live : bytes.0 ≡ added_in seat (4 * p) - added_in seat (4 * p + 1)
  pub quarantined : bytes.1 ≡ added_in seat (4 * p + 2) - added_in seat (4 * p + 3)

-- The line says what the workers counted, and the totals words and the census of its root, as a seat has seen them. What it says is cached
-- is left open.
pub record IsTotalled (threads : ℕ) (workers : ℕ → WorkerValue) (seat : View) (l : ReportLine) : Type 0 where
  pub live : IsLiveOf l.partition threads workers seat l.live
  pub quarantined : IsQuarantinedOf l.partition threads workers seat l.quarantined
  pub root : TellsCensus l.partition seat (census_of l)

-- The line is of this phase, has these totals, and says what the workers have cached.
pub record IsLineFor (phase threads : ℕ) (workers : ℕ → WorkerValue) (seat : View) (l : ReportLine) : Type 0 where
  pub phase_is : l.phase ≡ phase
  pub totals : IsTotalled threads workers seat l
  pub cached : IsCachedBy l.partition threads workers l.cached

-- A seat asked roots for their census: it has what it had, with the same logs, and has seen nothing new of any list.
pub record HasAsked (before after : View) : Type 0 where
  pub keeps : Keeps before after
  pub logs : (k : ℕ) → log_of k after ≡ log_of k before
  pub lists : HasSameLists before after

-- Lines were appended to those of a report: one for each partition in order, each of this phase and right.
pub record IsReported (phase partitions threads : ℕ) (workers : ℕ → WorkerValue) (first seat : View)
    (before after : List ReportLine) : Type 0 where
  pub asked : HasAsked first seat
  pub lines : List ReportLine
  pub behind : after ≡ before ++ lines
  pub places : map (λ (l : ReportLine). (l.phase, l.partition)) lines ≡ partitions_of phase 0 partitions
  pub right : (l : ReportLine) → Contains lines l → IsLineFor phase threads workers seat l
