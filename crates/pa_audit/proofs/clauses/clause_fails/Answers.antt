use Rattle.std.proofs.Common.{sym, subst}
use Rattle.pa_rules.specs.declared.verdict.Clause.{Clause}
use Rattle.pa_rules.specs.Verdicts.{Holds}
use Rattle.pa_audit.specs.Lined.{HoldBefore}
use Rattle.pa_audit.proofs.clauses.clause_fails.Goals as goal

pub returns-in-Titles-clause-line : goal.returns-in-Titles-clause-line
returns-in-Titles-clause-line c =
    let t = c.args.trace.now in
    let r = c.args.run.now in
    subst (λ (d : Clause). Holds d t r) (sym c.in-Titles.is)
    (c.titles_never_fail.ensures t r (subst (λ (d : Clause). HoldBefore d t r) c.in-Titles.is c.requires.can.before))
