use Rattle.std.proofs.Common.{subst}
use Rattle.pa_trace.specs.Grammar.{IsTraceText}
use Rattle.pa_trace.specs.Unread.{trace_with}
use Rattle.pa_trace_writer.specs.Lines.{LinesSoFar}
use Rattle.pa_player.specs.Told.{Lists, IsToldRun, IsToldText}
use Rattle.pa_model.proofs.Finished.{can_end, finishes, is_printed}
use Rattle.pa_model.proofs.player.Player+Told+TextOutput+Kept+LineText.finish_printed.Goals as goal

pub finish-requires : goal.finish-requires
finish-requires c = can_end c.args.self c.requires

pub into_text-requires : goal.into_text-requires
into_text-requires c =
    λ r told. (finishes c.args.self r c.requires (subst (λ (x : Lists). IsToldRun x r) c.in_ok-finish.ensures told)).printable

pub returns : goal.returns
returns c =
    let p = c.args.self in
    let front = c.into_text-2.result.items in
    let traced = subst (λ (l : LinesSoFar). IsTraceText (trace_with l.head l.items) front) c.into_keeper.ensures c.into_text-2.ensures in
    let told = subst (λ (x : Lists). IsToldText x c.in_ok-run.run'.items) c.in_ok-finish.ensures c.in_ok-run.ensures in
    is_printed p front c.in_ok-run.run'.items c.requires traced told
