use Rattle.std.proofs.Common.{◌≡◌, ap, ◌∙◌, sym, subst}
use Rattle.pa_trace.specs.declared.script.Trace.{Trace}
use Rattle.pa_trace.specs.Unread.{trace_with}
use Rattle.pa_trace_writer.specs.Lines.{LinesSoFar}
use Rattle.pa_player.specs.Told.{Lists, IsToldRun}
use Rattle.pa_model.specs.Player.{IsFinished, trace_so_far}
use Rattle.pa_model.proofs.Finished.{can_end, finishes}
use Rattle.pa_model.proofs.player.Player+Told+ListOutput+Kept+LineList.finish_traced.Goals as goal

pub finish-requires : goal.finish-requires
finish-requires c = can_end c.args.self c.requires

pub returns : goal.returns
returns c =
    let p = c.args.self in
    let at : c.into_trace.result ≡ trace_so_far p =
    c.into_trace.ensures ∙ ap (λ (l : LinesSoFar). trace_with l.head l.items) c.into_keeper.ensures in
    let told = subst (λ (x : Lists). IsToldRun x c.in_ok-run.run') c.in_ok-finish.ensures c.in_ok-run.ensures in
    subst (λ (t : Trace). IsFinished p t c.in_ok-run.run') (sym at) (finishes p c.in_ok-run.run' c.requires told)
