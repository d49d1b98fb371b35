use Rattle.pa_lists.proofs.Indexed.{at_in}
use Rattle.pa_rules.specs.Cells.{history_at}
use Rattle.pa_dangle.proofs.Copying.{saw_origin}
use Rattle.pa_dangle.proofs.gather.found_at.Goals as goal

pub origin-from-requires-clause-comes : goal.origin-from-requires-clause-comes
origin-from-requires-clause-comes c =
    saw_origin c.requires.handles.0 (history_at c.args.cells.now) c.args.records.now c.args.at c.args.told c.in_ok-seen.seen
    c.requires.handles.1 c.requires.told c.in_ok-seen.ensures.some

pub pair_of-requires-clause-told : goal.pair_of-requires-clause-told
pair_of-requires-clause-told c = at_in c.args.records.now c.args.at c.args.told c.requires.told
