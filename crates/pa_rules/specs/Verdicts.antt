-- What each clause requires of each place of a run's text, at which line it fails, and what a run's verdict is.
use Rattle.std.specs.Prelude.{◌≡◌, ℕ, ◌<◌}
use Rattle.pa_trace.specs.declared.script.Trace.{Trace}
use Rattle.pa_trace.specs.Rules.{rules_of}
use Rattle.pa_record.specs.declared.run.Run.{Run}
use Rattle.pa_rules.specs.declared.verdict.Clause.{Clause}
use Rattle.pa_rules.specs.declared.verdict.Clause.TheVariants as clauses
use Rattle.pa_rules.specs.declared.verdict.Verdict.{Verdict}
use Rattle.pa_rules.specs.declared.verdict.Verdict.TheVariants.{Legal, Broken}
use Rattle.pa_rules.specs.declared.verdict.Place.{Place}
use Rattle.pa_rules.specs.Told.{Told, told_by, records_of}
use Rattle.pa_rules.specs.Places.{line_at}
use Rattle.pa_rules.specs.Sizes.{usable_of}
use Rattle.pa_rules.specs.RecordDemands.{LinesDemand, CellsDemand, RegistersDemand, SlotsDemand, ContentsDemand, SeenDemand}
use Rattle.pa_rules.specs.HeapDemands.{PoolDemand, RootsDemand, TitlesDemand, HoldersDemand, CachesDemand, ReportDemand}
use Rattle.pa_rules.specs.Legal.{phases_in, IsLegal}

-- the demand of a clause on a place: a fact that holds there
abbrev pub Demand : Clause → Trace → Told → Place → Type 0
Demand clauses.Lines t r place = LinesDemand (rules_of t) t.lines r.entries place
Demand clauses.Cells t r place = CellsDemand r.cells (records_of t r) place
Demand clauses.Registers t r place = RegistersDemand (usable_of t.version) r.cells (records_of t r) place
Demand clauses.Slots t r place = SlotsDemand (records_of t r) place
Demand clauses.Contents t r place = ContentsDemand (usable_of t.version) r.cells (records_of t r) place
Demand clauses.Pool t r place = PoolDemand t.region (records_of t r) r.pools r.roots place
Demand clauses.Roots t r place = RootsDemand t.partitions (records_of t r) r.pools r.roots place
Demand clauses.Titles t r place = TitlesDemand r.pools r.roots place
Demand clauses.Holders t r place = HoldersDemand (records_of t r) r.roots place
Demand clauses.Caches t r place = CachesDemand t.partitions r.roots (records_of t r) place
Demand clauses.Seen t r place = SeenDemand r.cells (records_of t r) place
Demand clauses.Report t r place = ReportDemand (phases_in t.lines) t.partitions t.threads (records_of t r) r.pools r.roots r.report place

-- the clause holds: each place meets its demand
abbrev pub Holds : Clause → Trace → Run → Type 0
Holds c t r = (place : Place) → Demand c t (told_by r) place

-- line n is the first at which the clause fails: a place of the line doesn't meet its demand,
-- and each place of a line before does
pub record FailsAt (c : Clause) (t : Trace) (r : Run) (n : ℕ) : Type 0 where
  pub place : Place
  pub line : n ≡ line_at r place
  pub unmet : Demand c t (told_by r) place → ⊥
  pub before : (other : Place) → line_at r other < n → Demand c t (told_by r) other

-- the clause's place in the order of the clauses
abbrev pub turn : Clause → ℕ
turn clauses.Lines = 0
turn clauses.Cells = 1
turn clauses.Registers = 2
turn clauses.Slots = 3
turn clauses.Contents = 4
turn clauses.Pool = 5
turn clauses.Roots = 6
turn clauses.Titles = 7
turn clauses.Holders = 8
turn clauses.Caches = 9
turn clauses.Seen = 10
turn clauses.Report = 11

-- the clauses before this one hold, and line n is the first at which it fails
abbrev pub IsFirstFailing : Clause → ℕ → Trace → Run → Type 0
IsFirstFailing c n t r = ((d : Clause) → turn d < turn c → Holds d t r) × FailsAt c t r n

-- a run is legal, or this is the first clause that fails and the first line at which it does
abbrev pub IsVerdict : Verdict → Trace → Run → Type 0
IsVerdict Legal t r = IsLegal t r
IsVerdict (Broken c n) t r = IsFirstFailing c n t r
