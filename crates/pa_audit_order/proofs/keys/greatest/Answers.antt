use Rattle.std.proofs.Common.{◌+◌, arith}
use Rattle.std.proofs.lemmas.Grind.{common_steps}
use Rattle.std.specs.Ordering.{nat_cmp}
use Rattle.std.specs.BTreeMap.{get}
use Rattle.pa_audit_order.proofs.Bounding.{none_from}
use Rattle.pa_audit_order.proofs.keys.greatest.Goals as goal

pub returns-then-key-low-clause-none : goal.returns-then-key-low-clause-none
returns-then-key-low-clause-none c =
    let h = (c.range-below.ensures.in_range tt).4 _ _ c.in_ok-key.ensures.steps in
    none_from (get nat_cmp c.args.map.now) c.args.low c.args.high c.in_ok-key.key.now c.if-key-low.true
    (λ q below some. h q (tt, below) some)

pub returns-clause-some : goal.returns-clause-some
returns-clause-some c =
    let range = c.range-below.ensures.in_range tt in
    let h = range.4 _ _ c.in_ok-key.ensures.steps in
    let k = range.3 _ _ c.in_ok-key.ensures.steps in
    let at = get nat_cmp c.args.map.now in
    record {
      from = c.if-key-low.false;
      below = grind (arith, common_steps, k);
      here = k.1;
      last = none_from at (c.in_ok-key.key.now + 1) c.args.high c.in_ok-key.key.now (omega arith) (λ q below some. h q (tt, below) some);
    }
