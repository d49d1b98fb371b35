use Rattle.pa_trace.specs.declared.script.Op.TheVariants.{Free, Write, Swap}
use Rattle.pa_resize.specs.Expansion.{spare}
use Rattle.pa_resize.proofs.Steps.{went_four}
use Rattle.pa_resize.proofs.lines.hand_over.Goals as goal

pub returns : goal.returns
returns g c =
    let reg = c.args.reg in
    went_four c.args.player.now c.play_op.new.player c.play_op-2.new.player c.play_op-3.new.player c.play_op-4.new.player c.args.thread
    (Write spare c.args.value) (Free reg)
    (Swap spare spare) (Swap spare reg) c.in_ok-play_op.field-0 c.in_ok-play_op-2.field-0 c.in_ok-play_op-3.field-0
    c.in_ok-play_op-4.field-0 c.in_ok-play_op.ensures.went
    c.in_ok-play_op-2.ensures.went c.in_ok-play_op-3.ensures.went c.in_ok-play_op-4.ensures.went
