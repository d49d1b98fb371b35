-- A run is legal if and only if each clause holds at each of its places; the clause of the titles is never the first that
-- fails; and a run has one verdict.
use Rattle.std.specs.Prelude.{◌≡◌, ◌<◌, ◌↔◌}
use Rattle.pa_trace.specs.declared.script.Trace.{Trace}
use Rattle.pa_record.specs.declared.run.Run.{Run}
use Rattle.pa_rules.specs.declared.verdict.Clause.{Clause}
use Rattle.pa_rules.specs.declared.verdict.Clause.TheVariants as clauses
use Rattle.pa_rules.specs.declared.verdict.Verdict.{Verdict}
use Rattle.pa_rules.specs.Legal.{IsLegal}
use Rattle.pa_rules.specs.Verdicts.{Holds, IsVerdict, turn}

-- a run of the trace is legal if and only if every clause holds of it
abbrev pub LegalIs : Type 0
LegalIs = (t : Trace) (r : Run) → IsLegal t r ↔ ((c : Clause) → Holds c t r)

-- if the clauses before it hold, the clause of the titles holds
abbrev pub TitlesNeverFail : Type 0
TitlesNeverFail = (t : Trace) (r : Run) → ((d : Clause) → turn d < turn clauses.Titles → Holds d t r) → Holds clauses.Titles t r

-- two verdicts on the same run of the same trace are one
abbrev pub OneVerdict : Type 0
OneVerdict = (t : Trace) (r : Run) (v w : Verdict) → IsVerdict v t r → IsVerdict w t r → v ≡ w
