use Rattle.std.proofs.Common.{arith}
use Rattle.pa_rules.specs.Cells.{history_at}
use Rattle.pa_dangle.proofs.Leading.{end_copied, end_unknown, end_given, goes_out}
use Rattle.pa_dangle.proofs.ways.end_of.Goals as goal

pub returns-in-Copied-clause-some : goal.returns-in-Copied-clause-some
returns-in-Copied-clause-some c =
    let l = c.loop-step in
    end_copied (history_at c.args.cells.now) c.args.records.now c.args.ways.now c.args.at l.now l._step c.in-Copied.line _ c.requires.ways
    l.invariant c.in-Copied.is

pub returns-in-Unknown-clause-none : goal.returns-in-Unknown-clause-none
returns-in-Unknown-clause-none c =
    let l = c.loop-step in
    end_unknown (history_at c.args.cells.now) c.args.records.now c.args.ways.now c.args.at l.now l._step _ c.requires.ways
    l.invariant c.in-Unknown.is

pub loop-step-preserved : goal.loop-step-preserved
loop-step-preserved c =
    let l = c.loop-step in
    end_given (history_at c.args.cells.now) c.args.records.now c.args.ways.now c.args.at l.now l._step c.in-Given.before _ c.requires.rising
    c.requires.ways l.invariant c.in-Given.is

pub returns-clause-none : goal.returns-clause-none
returns-clause-none c = λ x line here origin.
    let l = c.loop-step in
    goes_out (history_at c.args.cells.now) c.args.records.now c.args.ways.now c.args.at l.now l._step line x c.requires.rising
    c.requires.ways (omega (arith, c.loop-step-test.false))
    l.invariant here origin
