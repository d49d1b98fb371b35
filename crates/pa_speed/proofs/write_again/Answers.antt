use Rattle.std.proofs.Common.{rules, ap, length, arith}
use Rattle.pa_trace.proofs.Texts.{one_text_trace}
use Rattle.pa_speed.proofs.write_again.Goals as goal

pub loop-preserved : goal.loop-preserved
loop-preserved c = record {
  told = λ text spelled.
      let round = ap length (one_text_trace _ _ _ c.in-Ok.ensures.text spelled) in
      let before = c.loop.invariant.told text spelled in
      omega arith;
  few = search rules;
}
