use Rattle.std.proofs.Common.{◌≡◌, ◌-◌, arith, rules, subst}
use Rattle.pa_audit_records.specs.ByKeys.{value_at}
use Rattle.pa_audit_records.specs.Steps.{AreFirstsFrom}
use Rattle.pa_audit_records.proofs.Stepping.{firsts_same, firsts_more}
use Rattle.pa_audit_records.proofs.steps.firsts.Goals as goal

pub loop-at-preserved-in-Continue-1 : goal.loop-at-preserved-in-Continue-1
loop-at-preserved-in-Continue-1 c =
    let k = c.loop-at.at - 1 in
    record {
      below = omega arith;
      firsts =
          firsts_more c.args.records.now (value_at c.loop-at.firsts) (value_at c.put.new.self) k c.loop-at.at c.in-Some.key _ (omega arith)
          (omega arith) c.in-Some.ensures.key c.step_key.ensures.sized
          c.in_ok-put.ensures.puts c.loop-at.invariant.firsts;
    }

pub loop-at-preserved : goal.loop-at-preserved
loop-at-preserved c =
    let k = c.loop-at.at - 1 in
    record {
      below = omega arith;
      firsts = firsts_same c.args.records.now (value_at c.loop-at.firsts) k c.loop-at.at _ (omega arith) (omega arith)
          (search rules) c.step_key.ensures.sized c.loop-at.invariant.firsts;
    }

pub returns : goal.returns
returns c =
    let none : c.loop-at.at ≡ 0 = omega (arith, c.loop-at-test.false) in
    subst (AreFirstsFrom c.args.records.now (value_at c.loop-at.firsts)) none c.loop-at.invariant.firsts
