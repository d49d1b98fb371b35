use Rattle.pa_rules.specs.Cells.{history_at}
use Rattle.pa_dangle.proofs.Gathering.{found_is}
use Rattle.pa_dangle.proofs.gather.pairs_of.Goals as goal

pub returns-clause-found : goal.returns-clause-found
returns-clause-found c =
    found_is (history_at c.args.cells.now) c.args.records.now c.in_ok-pairs.pairs.items c.sort.new.pairs.items c.kept-freed.result
    c.requires.handles.1.rising c.requires.handles.1.slots
    c.in_ok-pairs.ensures c.sort.ensures.same c.sort.ensures.sorted c.kept-freed.ensures
