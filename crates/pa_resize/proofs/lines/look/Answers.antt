use Rattle.pa_resize.proofs.Steps.{reads_value}
use Rattle.pa_resize.proofs.lines.look.Goals as goal

pub unreachable-requires : goal.unreachable-requires
unreachable-requires g c =
    let (seen, value, is) =
    reads_value c.args.player.now c.args.thread c.args.reg c.in_ok-seen.field-0 c.in_ok-seen.ensures.owned c.requires.owned in
    c.in_default.not-Value seen value is
