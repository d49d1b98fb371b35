use Rattle.pa_lists.proofs.Indexed.{element_at}
use Rattle.pa_dangle.proofs.ways.origin.Goals as goal

pub unreachable-requires : goal.unreachable-requires
unreachable-requires c =
    let (x, here) = element_at c.args.records.now c.args.at c.requires.at in
    let (line, comes) = c.requires.comes x here in
    c.in-None.ensures.none x line here comes
