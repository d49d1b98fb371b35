-- What is known of a run clause by clause, and what follows from it.
use Rattle.std.specs.Prelude.{◌≡◌, ◌≢◌, ℕ, ◌+◌, ◌<◌, List, Some, None, Contains, AllPairs}
use Rattle.pa_slot.specs.Count.{held_of, refs_of}
use Rattle.pa_slot.specs.Run.{Mark, Slots}
use Rattle.pa_trace.specs.declared.script.Trace.{Trace}
use Rattle.pa_trace.specs.Rules.{rules_of}
use Rattle.pa_record.specs.declared.pool.PoolEntry.{PoolEntry}
use Rattle.pa_rules.specs.declared.played.Played.{Played}
use Rattle.pa_rules.specs.Played.{AreDue, mark_of, marks_of}
use Rattle.pa_rules.specs.Cells.{AreCells}
use Rattle.pa_rules.specs.Registers.{AreRegisters}
use Rattle.pa_rules.specs.Contents.{AreContents}
use Rattle.pa_rules.specs.Roots.{Journals, AreRoots, IsPoolOf, AreAllTitles}
use Rattle.pa_rules.specs.Holders.{AreHolders}
use Rattle.pa_rules.specs.Caches.{AreCaches}
use Rattle.pa_rules.specs.Seen.{IsSeenInOrder}
use Rattle.pa_rules.specs.Report.{IsReport}
use Rattle.pa_rules.specs.Sizes.{usable_of}
use Rattle.pa_rules.specs.Told.{Told, records_of}
use Rattle.pa_rules.specs.Legal.{phases_in, IsLegalTold}
use Rattle.pa_legal.specs.Numbers.{AreNumbered}
use Rattle.pa_legal.specs.Flows.{UnmapsNext, IsNewMap, SlotsFlow}

-- a look finds a word that is in use
abbrev pub FindsInUse : Played → Type 0
FindsInUse x = (m : Mark) → mark_of x ≡ Some m → m.step ≡ None → 0 < held_of m.found + refs_of m.found

-- What is known of a run's slots, each clause by itself.
--   rising: the records are in the order of their lines
--   slots, pool, journals: three clauses of a legal run
--   flows: what the rows of its caches give, or rows with queues
--   numbers: a root hands a slot out at the number at which it has it
--   unmaps: a direct map that goes back is named at the number that the step left
--   used: a look finds a word in use
pub record AreKnown (supers partitions : ℕ) (ps : List Played) (pools : List PoolEntry) (roots : Journals) : Type 0 where
  pub rising : AllPairs (λ (x y : Played). x.line < y.line) ps
  pub slots : Slots (marks_of ps)
  pub pool : IsPoolOf supers ps pools roots
  pub journals : AreRoots partitions ps pools roots
  pub flows : SlotsFlow partitions roots ps
  pub numbers : AreNumbered roots
  pub unmaps : (x : Played) → Contains ps x → UnmapsNext roots x
  pub used : (x : Played) → Contains ps x → FindsInUse x

-- if what AreKnown asks is known, each free slot has one holder, as a legal run asks
abbrev pub HoldersFollow : Type 0
HoldersFollow =
    (supers partitions : ℕ) (ps : List Played) (pools : List PoolEntry) (roots : Journals) →
    AreKnown supers partitions ps pools roots → AreHolders ps roots

-- The clauses of a legal run, but for those of the caches and of the report, which are others where slots wait in queues.
pub record HasClauses (t : Trace) (r : Told) (ps : List Played) : Type 0 where
  pub lines : AreDue (rules_of t) t.lines r.entries
  pub cells : AreCells r.cells ps
  pub registers : AreRegisters (usable_of t.version) r.cells ps
  pub slots : Slots (marks_of ps)
  pub contents : AreContents (usable_of t.version) r.cells ps
  pub pool : IsPoolOf t.region ps r.pools r.roots
  pub roots : AreRoots t.partitions ps r.pools r.roots
  pub titles : AreAllTitles r.pools r.roots
  pub holders : AreHolders ps r.roots
  pub seen : IsSeenInOrder r.cells ps

-- What is known of a run clause by clause: all of these clauses but the titles and the holders, which follow from the rest; how slots
-- flow; and what is said above of a root's numbers, of direct maps that go back and of looks.
pub record IsKnown (t : Trace) (r : Told) (ps : List Played) : Type 0 where
  pub lines : AreDue (rules_of t) t.lines r.entries
  pub cells : AreCells r.cells ps
  pub registers : AreRegisters (usable_of t.version) r.cells ps
  pub slots : Slots (marks_of ps)
  pub contents : AreContents (usable_of t.version) r.cells ps
  pub pool : IsPoolOf t.region ps r.pools r.roots
  pub roots : AreRoots t.partitions ps r.pools r.roots
  pub flows : SlotsFlow t.partitions r.roots ps
  pub seen : IsSeenInOrder r.cells ps
  pub numbers : AreNumbered r.roots
  pub unmaps : (x : Played) → Contains ps x → UnmapsNext r.roots x
  pub used : (x : Played) → Contains ps x → FindsInUse x

-- if what IsKnown asks is known of a run, it has these clauses
abbrev pub ClausesFollow : Type 0
ClausesFollow = (t : Trace) (r : Told) → IsKnown t r (records_of t r) → HasClauses t r (records_of t r)

-- if a run has these clauses and those of the caches and of the report, what it contains is legal
abbrev pub LegalFollows : Type 0
LegalFollows =
    (t : Trace) (r : Told) → HasClauses t r (records_of t r) → AreCaches t.partitions r.roots (records_of t r) →
    IsReport (phases_in t.lines) t.partitions t.threads (records_of t r) r.pools r.roots r.report → IsLegalTold t r

-- A direct map is made once, so the issue of its slot finds the number 0.
abbrev pub NewMaps : Type 0
NewMaps =
    (supers partitions : ℕ) (ps : List Played) (pools : List PoolEntry) (roots : Journals) (x : Played) →
    AreRoots partitions ps pools roots → IsPoolOf supers ps pools roots → AllPairs (λ (x y : Played). x.line ≢ y.line) ps →
    Slots (marks_of ps) → SlotsFlow partitions roots ps → Contains ps x → IsNewMap roots x

-- what IsKnown asks is known of each legal run whose looks find words in use
abbrev pub LegalIsKnown : Type 0
LegalIsKnown =
    (t : Trace) (r : Told) → IsLegalTold t r → ((x : Played) → Contains (records_of t r) x → FindsInUse x) →
    IsKnown t r (records_of t r)
