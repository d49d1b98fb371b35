use Rattle.pa_rules.specs.Cells.{history_at}
use Rattle.pa_dangle.proofs.Leading.{shortens_more}
use Rattle.pa_dangle.proofs.ways.shorten.Goals as goal

pub loop-step-preserved : goal.loop-step-preserved
loop-step-preserved c =
    let l = c.loop-step in
    shortens_more (history_at c.args.cells.now) c.args.records.now l.ways l.now c.args.line c.in-Given.before _ c.requires.rising
    c.in-Given.is l.invariant
