use Rattle.std.proofs.Common.{sym, subst, arith}
use Rattle.std.specs.Prelude.{IfSome}
use Rattle.std.specs.Option.{option_map}
use Rattle.pa_rules.specs.declared.verdict.Clause.TheVariants as clauses
use Rattle.pa_rules.specs.Places.{line_at}
use Rattle.pa_audit.specs.Lined.{TellsLine}
use Rattle.pa_audit.specs.Placed.{IsThere}
use Rattle.pa_audit.proofs.Lining.{report_there, report_told}
use Rattle.pa_audit.proofs.report.report_fails.Goals as goal

pub report_meets-requires-clause-known : goal.report_meets-requires-clause-known
report_meets-requires-clause-known c =
    let known = c.requires.known in
    record {
      ends = known.ends;
      censuses = known.censuses (omega arith);
      lists = known.lists (omega arith);
    }

pub line_where-requires-clause-there : goal.line_where-requires-clause-there
line_where-requires-clause-there c =
    let r = c.args.run.now in
    subst (λ p. IfSome p (IsThere r)) (sym c.report_place.ensures) (report_there r c.in_ok-at.at c.in_ok-at.ensures.there)

pub returns : goal.returns
returns c =
    let t = c.args.trace.now in
    let r = c.args.run.now in
    subst (λ o. TellsLine clauses.Report t r o) (sym c.line_where.ensures)
    (subst (λ p. TellsLine clauses.Report t r (option_map (line_at r) p)) (sym c.report_place.ensures)
    (report_told t r c.in_ok-at.at c.in_ok-at.ensures.first))
