use Rattle.std.proofs.Common.{◌∙◌}
use Rattle.pa_io.proofs.Moves.{Takes_more}
use Rattle.pa_cli.proofs.output.write_output.Goals as goal

pub loop-rest-preserved : goal.loop-rest-preserved
loop-rest-preserved g c = (
  Takes_more _ _ _ _ _ _ _ c.loop-rest.invariant.0 c.in_ok-n.ensures.takes c.split_at.ensures.back,
  c.in_ok-n.ensures.calm ∙
      c.loop-rest.invariant.1,
)
