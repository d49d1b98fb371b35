use Rattle.std.proofs.Common.{◌+◌, ap, sym, subst}
use Rattle.pa_audit_records.specs.ByKeys.{value_at}
use Rattle.pa_audit_order.specs.Steps.{ArePrevious}
use Rattle.pa_audit_order.proofs.Handing.{last_more, previous_more}
use Rattle.pa_audit_order.proofs.hands.previous_of.Goals as goal

pub loop-record-preserved : goal.loop-record-preserved
loop-record-preserved c =
    let ps = c.args.records.now in
    let f = value_at c.loop-record.last in
    let k = c.loop-record.record-index in
    let inv = c.loop-record.invariant in
    record {
      at = ap (λ n. n + 1) inv.at;
      last = last_more ps f (value_at c.put.new.self) k c.loop-record.at _ c.loop-record-test.true inv.at c.in_ok-put.ensures.puts inv.last;
      previous =
          subst (λ zs. ArePrevious ps zs (k + 1)) (sym c.in_ok-push.ensures.items)
          (previous_more ps c.loop-record.previous.items f k _ c.find.result c.loop-record-test.true c.find.ensures inv.last inv.previous);
    }
