-- What is known of a run that was played in a region, that it has the clauses of a legal run but those of the threads' lists and of
-- the report, and that with these it is legal.
use Rattle.std.specs.Prelude.{◌≡◌, ℕ, ◌<◌, List, Contains}
use Rattle.pa_slot.specs.declared.word.SlotName.{SlotName}
use Rattle.pa_trace.specs.Rules.{rules_of}
use Rattle.pa_region.specs.declared.view.View.{View}
use Rattle.pa_trace.specs.declared.script.Trace.{Trace}
use Rattle.pa_rules.specs.declared.played.Played.{Played}
use Rattle.pa_rules.specs.Played.{AreDue}
use Rattle.pa_rules.specs.Cells.{AreCells}
use Rattle.pa_rules.specs.Registers.{AreRegisters}
use Rattle.pa_rules.specs.Roots.{AreRoots, IsPoolOf}
use Rattle.pa_rules.specs.Caches.{AreCaches}
use Rattle.pa_rules.specs.Seen.{HandsTo}
use Rattle.pa_rules.specs.Report.{IsReport}
use Rattle.pa_rules.specs.Sizes.{usable_of}
use Rattle.pa_rules.specs.Told.{Told, records_of}
use Rattle.pa_rules.specs.Legal.{phases_in, IsLegalTold}
use Rattle.pa_legal.specs.Flows.{SlotsFlow, UnmapsNext}
use Rattle.pa_legal.specs.Known.{HasClauses}
use Rattle.pa_legal.specs.Numbers.{AreNumbered}
use Rattle.pa_logs.specs.Told.{ToldRecord, played_in}
use Rattle.pa_logs.specs.Touches.{AreTold}
use Rattle.pa_logs.specs.Reads.{KnowsAll, HaveEnds, HaveReaders}
use Rattle.pa_logs.specs.Viewed.{IsExchanged, AreViewed}

-- A run's records with their log segments, what is known of their logs, and the clauses that other layers give.
--   due, records: the records are the trace's lines, each with a log segment
--   told: each log segment is what its answer requires
--   last, ends: at the end and at each phase's end a view knows all logs
--   readers: reads are known to be through their handles
--   viewed, handed, threads: what seats had seen, and the order of exchanges, in which a line has the place `place`
--   cells, registers, pool, roots: four clauses of a legal run
--   flows: how slots flow from the roots to the threads and back
--   numbers, unmaps: a root's numbers, and direct maps that go back
pub record IsPlayedOut (sizes : SlotName → ℕ) (place : ℕ → ℕ) (t : Trace) (r : Told) (v : View) (ts : List ToldRecord) : Type 0 where
  pub due : AreDue (rules_of t) t.lines r.entries
  pub records : played_in ts ≡ records_of t r
  pub told : AreTold sizes ts
  pub last : KnowsAll v ts
  pub ends : HaveEnds ts
  pub readers : HaveReaders t.version sizes r.cells ts
  pub viewed : AreViewed r.cells ts
  pub handed : (x y : Played) → HandsTo r.cells x y → place x.line < place y.line
  pub threads : (x y : Played) → Contains (played_in ts) x → Contains (played_in ts) y → IsExchanged x → IsExchanged y →
      x.thread ≡ y.thread → x.line < y.line → place x.line < place y.line
  pub cells : AreCells r.cells (played_in ts)
  pub registers : AreRegisters (usable_of t.version) r.cells (played_in ts)
  pub pool : IsPoolOf t.region (played_in ts) r.pools r.roots
  pub roots : AreRoots t.partitions (played_in ts) r.pools r.roots
  pub flows : SlotsFlow t.partitions r.roots (played_in ts)
  pub numbers : AreNumbered r.roots
  pub unmaps : (x : Played) → Contains (played_in ts) x → UnmapsNext r.roots x

-- a run that was played out has the clauses of a legal run, but those of the caches and of the report
abbrev pub ClausesAreTold : Type 0
ClausesAreTold =
    (sizes : SlotName → ℕ) (place : ℕ → ℕ) (t : Trace) (r : Told) (v : View) (ts : List ToldRecord) →
    IsPlayedOut sizes place t r v ts → HasClauses t r (records_of t r)

-- the output of a run that was played out is legal, if its caches and its report are those of a legal run
abbrev pub LegalIsTold : Type 0
LegalIsTold =
    (sizes : SlotName → ℕ) (place : ℕ → ℕ) (t : Trace) (r : Told) (v : View) (ts : List ToldRecord) →
    IsPlayedOut sizes place t r v ts → AreCaches t.partitions r.roots (played_in ts) →
    IsReport (phases_in t.lines) t.partitions t.threads (played_in ts) r.pools r.roots r.report → IsLegalTold t r
