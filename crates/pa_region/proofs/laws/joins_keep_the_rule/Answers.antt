use Rattle.std.proofs.Common.{◌∙◌}
use Rattle.pa_region.specs.Hands.{united}
use Rattle.pa_region.proofs.Shown.{put_beside}
use Rattle.pa_region.proofs.JoinStep.{united_parts, join_keeps}
use Rattle.pa_region.proofs.laws.joins_keep_the_rule.Goals as goal

pub returns : goal.returns
returns c words views i j v w k at_i at_j ne can =
    (united_parts v w, join_keeps words views i j v w k at_i at_j ne (put_beside views i j (united v w) ne ∙ at_j) can)
