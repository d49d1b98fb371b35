-- A legal run of a trace, and the run in the order of its lines.
use Rattle.std.specs.Prelude.{ℕ, ◌+◌, Bool, true, false, List, count_by}
use Rattle.pa_slot.specs.Run.{Slots}
use Rattle.pa_trace.specs.declared.script.Trace.{Trace}
use Rattle.pa_trace.specs.Rules.{rules_of}
use Rattle.pa_trace.specs.declared.script.Line.{Line}
use Rattle.pa_trace.specs.declared.script.Line.TheVariants.{Phase, Do}
use Rattle.pa_record.specs.declared.run.Run.{Run}
use Rattle.pa_rules.specs.declared.played.Played.{Played}
use Rattle.pa_rules.specs.Played.{AreDue, marks_of}
use Rattle.pa_rules.specs.Told.{Told, told_by, records_of}
use Rattle.pa_rules.specs.Cells.{AreCells}
use Rattle.pa_rules.specs.Registers.{AreRegisters}
use Rattle.pa_rules.specs.Contents.{AreContents}
use Rattle.pa_rules.specs.Roots.{IsPoolOf, AreRoots, AreAllTitles}
use Rattle.pa_rules.specs.Holders.{AreHolders}
use Rattle.pa_rules.specs.Caches.{AreCaches}
use Rattle.pa_rules.specs.Seen.{IsSeenInOrder}
use Rattle.pa_rules.specs.Report.{IsReport}
use Rattle.pa_rules.specs.Sizes.{usable_of}
use Rattle.pa_rules.specs.FileOrder.{IsInFileOrder}

-- the test whether a line begins a phase
abbrev pub is_phase : Line → Bool
is_phase Phase = true
is_phase (Do thread op) = false

-- a trace has one phase more than it has lines that begin one
abbrev pub phases_in : List Line → ℕ
phases_in ls = count_by is_phase ls + 1

-- The clauses of a legal run, in the order in which they are tested. What a run contains is legal by these records, which
-- are paired with the ops of their lines.
pub record IsLegalBy (t : Trace) (r : Told) (ps : List Played) : Type 0 where
  pub lines : AreDue (rules_of t) t.lines r.entries
  pub cells : AreCells r.cells ps
  pub registers : AreRegisters (usable_of t.version) r.cells ps
  pub slots : Slots (marks_of ps)
  pub contents : AreContents (usable_of t.version) r.cells ps
  pub pool : IsPoolOf t.region ps r.pools r.roots
  pub roots : AreRoots t.partitions ps r.pools r.roots
  pub titles : AreAllTitles r.pools r.roots
  pub holders : AreHolders ps r.roots
  pub caches : AreCaches t.partitions r.roots ps
  pub seen : IsSeenInOrder r.cells ps
  pub report : IsReport (phases_in t.lines) t.partitions t.threads ps r.pools r.roots r.report

-- what a run contains is legal, with its records paired with the trace's ops
abbrev pub IsLegalTold : Trace → Told → Type 0
IsLegalTold t r = IsLegalBy t r (records_of t r)

-- what a run contains is legal, and in the order of the trace's lines
abbrev pub IsFileTold : Trace → Told → Type 0
IsFileTold t r = IsLegalTold t r × IsInFileOrder (records_of t r) r.pools r.roots r.cells

-- the run is a legal run of the trace
abbrev pub IsLegal : Trace → Run → Type 0
IsLegal t r = IsLegalTold t (told_by r)

-- the run is legal, and in the order of the trace's lines
abbrev pub IsFileRun : Trace → Run → Type 0
IsFileRun t r = IsFileTold t (told_by r)
