use Rattle.std.proofs.Common.{◌<◌}
use Rattle.pa_rules.specs.declared.verdict.Clause.{Clause}
use Rattle.pa_rules.specs.Verdicts.{Holds, turn}
use Rattle.pa_audit.specs.Lined.{KnowsBefore}
use Rattle.pa_audit.proofs.clauses.audit_dense.Given as goal

abbrev pub invariant-loop-at : goal.invariant-loop-at
invariant-loop-at l = record {
  holds : (d : Clause) → turn d < l.at → Holds d l.trace l.run;
  known : KnowsBefore l.at l.trace l.run l.records.items l.known;
}
