use Rattle.std.proofs.Common.{sym, subst}
use Rattle.pa_region.specs.declared.view.View.{View}
use Rattle.pa_op_specs.specs.Stocks.{IsForThread}
use Rattle.pa_runner.proofs.Gathered.{for_note}
use Rattle.pa_runner.proofs.phase.hear.Goals as goal

pub hear-requires-clause-note : goal.hear-requires-clause-note
hear-requires-clause-note g c =
    subst (λ n. IsForThread n c.hand-note.result.view) (sym c.requires.thread.0)
    (subst (λ (v : View). IsForThread c.args.thread v) (sym c.hand-note.ensures.given)
    (for_note c.args.thread c.args.seat.now.view c.requires.thread.1 c.requires.stake))
