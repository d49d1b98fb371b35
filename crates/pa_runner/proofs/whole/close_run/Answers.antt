use Rattle.std.proofs.lemmas.Result.{IfOk-weaker}
use Rattle.pa_execution.specs.Turns.{Beside}
use Rattle.pa_runner.proofs.Closing.{is_run}
use Rattle.pa_runner.proofs.whole.close_run.Goals as goal

pub close_turns-requires-clause-gone : goal.close_turns-requires-clause-gone
close_turns-requires-clause-gone g c = (Beside, c.requires.played.gone)

pub returns : goal.returns
returns g c =
    IfOk-weaker c.close_turns.result _ _
    (λ out made. is_run c.args.trace.now c.args.workers.items c.args.seat.view c.args.report.items c.requires.limits c.requires.played
    out.0 out.1 made c.slots_stay_seen.ensures) c.close_turns.ensures
