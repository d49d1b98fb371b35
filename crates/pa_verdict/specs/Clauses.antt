-- A clause of a legal run holds if and only if each place of the run meets what the clause requires of it.
use Rattle.std.specs.Prelude.{◌↔◌}
use Rattle.pa_trace.specs.declared.script.Trace.{Trace}
use Rattle.pa_slot.specs.Run.{Slots}
use Rattle.pa_trace.specs.Rules.{rules_of}
use Rattle.pa_rules.specs.declared.verdict.Clause.{Clause}
use Rattle.pa_rules.specs.declared.verdict.Clause.TheVariants as clauses
use Rattle.pa_rules.specs.declared.verdict.Place.{Place}
use Rattle.pa_rules.specs.Told.{Told, records_of}
use Rattle.pa_rules.specs.Played.{AreDue, marks_of}
use Rattle.pa_rules.specs.Cells.{AreCells}
use Rattle.pa_rules.specs.Registers.{AreRegisters}
use Rattle.pa_rules.specs.Contents.{AreContents}
use Rattle.pa_rules.specs.Roots.{IsPoolOf, AreRoots, AreAllTitles}
use Rattle.pa_rules.specs.Holders.{AreHolders}
use Rattle.pa_rules.specs.Caches.{AreCaches}
use Rattle.pa_rules.specs.Seen.{IsSeenInOrder}
use Rattle.pa_rules.specs.Report.{IsReport}
use Rattle.pa_rules.specs.Sizes.{usable_of}
use Rattle.pa_rules.specs.Legal.{phases_in}
use Rattle.pa_rules.specs.Verdicts.{Demand}

-- each place meets what the clause requires of it
abbrev pub IsMet : Clause → Trace → Told → Type 0
IsMet c t r = (place : Place) → Demand c t r place

-- the clause of the lines holds if and only if each place meets it
abbrev pub LinesArePlaces : Type 0
LinesArePlaces = (t : Trace) (r : Told) → AreDue (rules_of t) t.lines r.entries ↔ IsMet clauses.Lines t r

-- the clause of the registers holds if and only if each place meets it
abbrev pub RegistersArePlaces : Type 0
RegistersArePlaces = (t : Trace) (r : Told) → AreRegisters (usable_of t.version) r.cells (records_of t r) ↔ IsMet clauses.Registers t r

-- the clause of the contents holds if and only if each place meets it
abbrev pub ContentsArePlaces : Type 0
ContentsArePlaces = (t : Trace) (r : Told) → AreContents (usable_of t.version) r.cells (records_of t r) ↔ IsMet clauses.Contents t r

-- the clause of the caches holds if and only if each place meets it
abbrev pub CachesArePlaces : Type 0
CachesArePlaces = (t : Trace) (r : Told) → AreCaches t.partitions r.roots (records_of t r) ↔ IsMet clauses.Caches t r

-- the clause of what is seen in order holds if and only if each place meets it
abbrev pub SeenIsPlaces : Type 0
SeenIsPlaces = (t : Trace) (r : Told) → IsSeenInOrder r.cells (records_of t r) ↔ IsMet clauses.Seen t r

-- the clause of the report holds if and only if each place meets it
abbrev pub ReportIsPlaces : Type 0
ReportIsPlaces =
    (t : Trace) (r : Told) →
    IsReport (phases_in t.lines) t.partitions t.threads (records_of t r) r.pools r.roots r.report ↔ IsMet clauses.Report t r

-- if the lines are right, the clause of the cells holds if and only if each place meets it
abbrev pub CellsArePlaces : Type 0
CellsArePlaces = (t : Trace) (r : Told) → AreDue (rules_of t) t.lines r.entries →
    AreCells r.cells (records_of t r) ↔ IsMet clauses.Cells t r

-- if the lines are right, the clause of the slots holds if and only if each place meets it
abbrev pub SlotsArePlaces : Type 0
SlotsArePlaces = (t : Trace) (r : Told) → AreDue (rules_of t) t.lines r.entries →
    Slots (marks_of (records_of t r)) ↔ IsMet clauses.Slots t r

-- if the lines are right, the clause of the pool holds if and only if each place meets it
abbrev pub PoolIsPlaces : Type 0
PoolIsPlaces =
    (t : Trace) (r : Told) → AreDue (rules_of t) t.lines r.entries →
    IsPoolOf t.region (records_of t r) r.pools r.roots ↔ IsMet clauses.Pool t r

-- if the lines are right, the clause of the roots holds if and only if each place meets it
abbrev pub RootsArePlaces : Type 0
RootsArePlaces =
    (t : Trace) (r : Told) → AreDue (rules_of t) t.lines r.entries →
    AreRoots t.partitions (records_of t r) r.pools r.roots ↔ IsMet clauses.Roots t r

-- If each place meets the clause of the titles, the titles of the whole journals are right. If the journals and the pool's
-- entries are right, each place meets it, so the clause is never the first that fails.
pub record TitlesArePlaces : Type 0 where
  pub whole : (t : Trace) (r : Told) → IsMet clauses.Titles t r → AreAllTitles r.pools r.roots
  pub met : (t : Trace) (r : Told) → AreRoots t.partitions (records_of t r) r.pools r.roots
      → IsPoolOf t.region (records_of t r) r.pools r.roots → IsMet clauses.Titles t r

-- if the lines and the slots are right, the clause of the holders holds if and only if each place meets it
abbrev pub HoldersArePlaces : Type 0
HoldersArePlaces =
    (t : Trace) (r : Told) → AreDue (rules_of t) t.lines r.entries → Slots (marks_of (records_of t r)) →
    AreHolders (records_of t r) r.roots ↔ IsMet clauses.Holders t r
