use Rattle.std.proofs.Common.{◌+◌, ◌≤◌, sym, subst}
use Rattle.pa_audit_records.specs.ByKeys.{value_at}
use Rattle.pa_audit_order.proofs.Climbing.{RisesSoFar, rises_told, rises_quiet, rises_end}
use Rattle.pa_audit_order.proofs.rises.numbers_rise.Goals.{in-Some+in_ok-old+else-look-unwrap_or, in_default}
use Rattle.pa_audit_order.proofs.rises.numbers_rise.Goals as goal

pub loop-record-preserved : goal.loop-record-preserved
loop-record-preserved c =
    let ps = c.args.records.now in
    let n = c.loop-record.record-index in
    let before = value_at c.loop-record.left in
    elim c.match-look_of.branch [
      | in-Some+in_ok-old+else-look-unwrap_or w ↦
          subst (λ z. RisesSoFar ps (value_at z) (n + 1)) (sym w.left-is)
          (rises_told ps before (value_at w.replace.new.self) n w.key.result _ w.in-Some.look w.in_ok-old.old c.loop-record-test.true
          w.in-Some.ensures w.key.ensures.key w.in_ok-old.ensures.old w.in_ok-old.ensures.puts
          (subst (λ z. z ≤ w.in-Some.look.found) w.unwrap_or.ensures w.if-look-unwrap_or.false) c.loop-record.invariant)
      | in_default w ↦
          subst (λ z. RisesSoFar ps (value_at z) (n + 1)) (sym w.left-is)
          (rises_quiet ps before n _ c.loop-record-test.true w.in_default.ensures c.loop-record.invariant)
    ]

pub returns : goal.returns
returns c = λ all. rises_end c.args.records.now
    (value_at c.loop-record.left) c.loop-record.record-index c.loop-record-test.false c.loop-record.invariant
