use Rattle.std.proofs.Common.{◌<◌, length, sym, ◌∙◌, ap, subst, arith}
use Rattle.pa_trace.specs.Rules.{rules_of}
use Rattle.pa_rules.specs.declared.verdict.Clause.{Clause}
use Rattle.pa_rules.specs.declared.verdict.Clause.TheVariants as clauses
use Rattle.pa_rules.specs.Verdicts.{turn}
use Rattle.pa_rules.specs.Played.{played}
use Rattle.pa_rules.specs.Rising.{RiseByLine}
use Rattle.pa_audit.proofs.clauses.audit_dense.Goals as goal

-- there are twelve clauses
turn_below : (d : Clause) → turn d < 12
turn_below clauses.Lines = omega arith
turn_below clauses.Cells = omega arith
turn_below clauses.Registers = omega arith
turn_below clauses.Slots = omega arith
turn_below clauses.Contents = omega arith
turn_below clauses.Pool = omega arith
turn_below clauses.Roots = omega arith
turn_below clauses.Titles = omega arith
turn_below clauses.Holders = omega arith
turn_below clauses.Caches = omega arith
turn_below clauses.Seen = omega arith
turn_below clauses.Report = omega arith

pub returns : goal.returns
returns c = (c.legal_is.ensures c.args.trace.now c.args.run.now).1
    (λ d. let less = turn_below d in c.loop-at.invariant.holds d (omega (arith, less, c.loop-at-test.false)))

pub clause_fails-requires-clause-can : goal.clause_fails-requires-clause-can
clause_fails-requires-clause-can c =
    let t = c.args.trace.now in
    let r = c.args.run.now in
    let same = c.as_slice-in-loop-at.ensures.value in
    let told = c.in_ok-records.ensures in
    let lines = c.as_slice.ensures in
    let short = c.requires.limits.few in
    let few = told.few in
    record {
      limits = c.requires.limits;
      printable = c.requires.printable;
      short = c.requires.short;
      records = same ∙ told.records ∙ ap (λ k. played k c.as_slice.result.now c.entries.result.now) c.rules.ensures
          ∙ ap (λ ls. played (rules_of c.args.trace.now) ls c.entries.result.now) c.as_slice.ensures ∙
          ap (played (rules_of c.args.trace.now) c.args.trace.now.lines) c.entries.ensures.entries;
      few = let long = ap length same in let all = ap length lines in omega (arith, long, all, few, short);
      rising = subst RiseByLine (sym same) told.rising;
      before = λ d less. c.loop-at.invariant.holds d (let at = c.clause_of-clause.ensures in omega (arith, less, at));
    }
