use Rattle.std.proofs.Common.{◌+◌, ◌∙◌, sym, ap, arith}
use Rattle.std.specs.Prelude.{slice_get}
use Rattle.std.proofs.lemmas.Bool.{both_ways}
use Rattle.std.proofs.lemmas.Option.{slice_get-get_or}
use Rattle.pa_audit_report.proofs.Comparing.{all_same, one_missing, other_here, same_more, same_to}
use Rattle.pa_audit_report.proofs.report.first_other.Goals as goal

pub returns-then-not-stands_at-clause-first : goal.returns-then-not-stands_at-clause-first
returns-then-not-stands_at-clause-first c =
    let l = c.loop-line in
    let lines = c.args.lines.now in
    let there = ap (λ k. slice_get lines k) l.invariant.at ∙ slice_get-get_or lines l.line-index _ c.loop-line-test.true in
    other_here lines c.args.due.now l.at _ there (λ e. both_ways _ c.if-not-stands_at.true (c.stands_at.ensures.1 e))
    (same_to lines c.args.due.now l.at l.line-index l.invariant.at l.invariant.same)

pub loop-line-preserved : goal.loop-line-preserved
loop-line-preserved c =
    let l = c.loop-line in
    let lines = c.args.lines.now in
    let found = ap (λ k. slice_get c.args.due.now k) (sym l.invariant.at) ∙ c.stands_at.ensures.0 c.if-not-stands_at.false in
    record {
      at = ap (λ k. k + 1) l.invariant.at;
      same = same_more lines c.args.due.now l.line-index _
          (slice_get-get_or lines l.line-index _ c.loop-line-test.true) found l.invariant.same;
    }

pub returns-then-lines-due-clause-first : goal.returns-then-lines-due-clause-first
returns-then-lines-due-clause-first c =
    let l = c.loop-line in
    let lines = c.args.lines.now in
    one_missing lines c.args.due.now l.at (omega (arith, l.invariant.at, c.loop-line-test.false))
    (omega (arith, l.invariant.at, l.auto.line-index-end, c.if-lines-due.true))
    (same_to lines c.args.due.now l.at l.line-index l.invariant.at l.invariant.same)

pub returns-else-lines-due-clause-first : goal.returns-else-lines-due-clause-first
returns-else-lines-due-clause-first c =
    let l = c.loop-line in
    all_same c.args.lines.now c.args.due.now l.line-index c.loop-line-test.false c.if-lines-due.false l.invariant.same
