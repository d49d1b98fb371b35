use Rattle.pa_rules.specs.Cells.{history_at}
use Rattle.pa_dangle.proofs.Giving.{back_unknown}
use Rattle.pa_dangle.proofs.ways.way_back.Goals as goal

pub returns-in-None : goal.returns-in-None
returns-in-None c =
    back_unknown (history_at c.args.cells.now) c.args.records.now c.args.put c.in-Swap.cell c.in-Swap.reg c.in-Swapped.entry c.in-Swap.is
    c.in-Swapped.is c.in-None.ensures.none
