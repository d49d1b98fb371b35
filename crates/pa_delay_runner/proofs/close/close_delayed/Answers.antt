use Rattle.std.proofs.lemmas.Result.{IfOk-weaker}
use Rattle.pa_execution.specs.Turns.{InTurn}
use Rattle.pa_delay_runner.proofs.Closing.{is_delayed}
use Rattle.pa_delay_runner.proofs.close.close_delayed.Goals as goal

pub close_turns-requires-clause-gone : goal.close_turns-requires-clause-gone
close_turns-requires-clause-gone g c = (InTurn, c.requires.played.1.gone)

pub returns : goal.returns
returns g c =
    IfOk-weaker c.close_turns.result _ _
    (λ out made bytes went. is_delayed bytes c.args.trace.now c.args.workers.items c.args.seat.view c.args.report.items c.requires.limits
    went out.0 out.1 made) c.close_turns.ensures
