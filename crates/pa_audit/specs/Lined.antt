-- What must hold before a clause is tested, and what is found of it by the lines of the run's text.
use Rattle.std.specs.Prelude.{ℕ, ◌+◌, ◌<◌, ◌-◌, ◌^◌, List, length, Option, Some, None}
use Rattle.pa_trace.specs.declared.script.Trace.{Trace}
use Rattle.pa_trace.specs.Limits.{IsWithinLimits}
use Rattle.pa_record.specs.declared.run.Run.{Run}
use Rattle.pa_record.specs.RunText.{IsPrintable}
use Rattle.pa_rules.specs.declared.played.Played.{Played}
use Rattle.pa_rules.specs.declared.verdict.Clause.{Clause}
use Rattle.pa_rules.specs.declared.verdict.Clause.TheVariants as clauses
use Rattle.pa_rules.specs.Places.{report_at}
use Rattle.pa_rules.specs.Rising.{RiseByLine}
use Rattle.pa_rules.specs.Verdicts.{FailsAt, Holds, turn}
use Rattle.pa_audit_report.specs.Given.{AreRecordsOf}
use Rattle.pa_audit_report.specs.Known.{KnowsCensuses, KnowsEnds, KnowsLists}
use Rattle.pa_audit_report.specs.declared.known.Known.{Known}

-- The clause holds if no line is found, and else fails first at this line.
abbrev pub TellsLine : Clause → Trace → Run → Option ℕ → Type 0
TellsLine c t r None = Holds c t r
TellsLine c t r (Some n) = FailsAt c t r n

-- the numbers of the lines of the run's text have 32 bits
abbrev pub HasLines32 : Run → Type 0
HasLines32 r = report_at r + length r.report.items < 2 ^ 32 - 1

-- the clauses before this one hold
abbrev pub HoldBefore : Clause → Trace → Run → Type 0
HoldBefore c t r = (d : Clause) → turn d < turn c → Holds d t r

-- What the test of a clause has: a trace within its limits, a run that has a text with line numbers of 32 bits, and the run's records
-- with the ops of the trace, which are few and in the order of their lines. The clauses before this one hold.
pub record CanBeAudited (c : Clause) (t : Trace) (r : Run) (ps : List Played) : Type 0 where
  pub limits : IsWithinLimits t
  pub printable : IsPrintable r
  pub short : HasLines32 r
  pub records : AreRecordsOf t r ps
  pub few : length ps < 65536
  pub rising : RiseByLine ps
  pub before : HoldBefore c t r

-- What is known for the report before the clause of that turn is tested: the index at which each phase ends, what the roots have once
-- their clause was tested, and what the lists have once that of the caches was.
pub record KnowsBefore (n : ℕ) (t : Trace) (r : Run) (ps : List Played) (k : Known) : Type 0 where
  pub ends : KnowsEnds t ps k
  pub censuses : turn clauses.Roots < n → KnowsCensuses t r ps k
  pub lists : turn clauses.Caches < n → KnowsLists t r ps k
