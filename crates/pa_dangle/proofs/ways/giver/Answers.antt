use Rattle.std.proofs.Common.{sym}
use Rattle.pa_rules.specs.Cells.{history_at}
use Rattle.pa_dangle.proofs.Giving.{giver_none}
use Rattle.pa_dangle.proofs.ways.giver.Goals as goal

pub returns-clause-none : goal.returns-clause-none
returns-clause-none c =
    giver_none (history_at c.args.cells.now) c.args.records.now c.args.cell c.args.entry c.in_ok-before.before c.record_on.result
    c.if-entry-eq0.false (sym c.in_ok-before.ensures)
    c.record_on.ensures.none
