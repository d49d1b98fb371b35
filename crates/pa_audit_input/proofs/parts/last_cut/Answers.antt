use Rattle.pa_audit_input.proofs.Cutting.{cut_next, empty_is, last_at}
use Rattle.pa_audit_input.proofs.parts.last_cut.Goals as goal

pub loop-rest-preserved : goal.loop-rest-preserved
loop-rest-preserved c = record {
  cut = cut_next (λ line. Unit {0}) c.args.bytes.now c.loop-rest.rest.now c.loop-rest.after.now c.loop-rest.lines c.loop-rest.invariant.cut
      c.loop-rest.invariant.behind tt;
  behind = c.behind_line-after-in-loop-rest.ensures;
}

pub returns-clause-cut : goal.returns-clause-cut
returns-clause-cut c =
    let rest = c.loop-rest.rest.now in
    let after = c.loop-rest.after.now in (
      rest,
      last_at c.args.bytes.now rest after c.split_at.result.0.now c.loop-rest.lines c.loop-rest.invariant.cut c.loop-rest.invariant.behind
          (empty_is after c.is_empty.result c.is_empty.ensures c.loop-rest-test.false) c.split_at.ensures.front,
    )
