use Rattle.std.proofs.Common.{sym, subst}
use Rattle.pa_region.specs.declared.view.View.{View}
use Rattle.pa_op_specs.specs.Stocks.{IsForThread}
use Rattle.pa_runner.proofs.Opened.{note_for, new_for}
use Rattle.pa_runner.proofs.opening.open_worker.Goals as goal

pub open-requires-clause-note : goal.open-requires-clause-note
open-requires-clause-note g c =
    subst (λ (v : View). IsForThread c.args.thread v) (sym c.hand-note.ensures.given)
    (note_for c.args.thread c.args.lines c.args.seat.now.view c.requires.stake c.requires.small.0)

pub returns-clause-new : goal.returns-clause-new
returns-clause-new g c =
    new_for c.args.thread c.args.lines c.args.seat.now.view c.args.partitions c.args.rules c.open.result
    c.hand-note.result.view c.hand-note.ensures.given c.requires.stake c.requires.log c.open.ensures
