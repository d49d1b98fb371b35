use Rattle.std.proofs.Common.{◌+◌, sym, subst}
use Rattle.pa_slot.proofs.Outcomes.{any_err}
use Rattle.pa_audit_order.specs.Steps.{Adds}
use Rattle.pa_audit_order.proofs.Advancing.{adds_none, adds_one, adds_past, adds_stop}
use Rattle.pa_audit_order.proofs.cuts.raise_floor.Goals as goal

pub loop-floor-init : goal.loop-floor-init
loop-floor-init c = adds_none c.args.records.now c.args.phase c.args.stack.now.items c.args.floor.now c.requires.within

pub loop-floor-preserved : goal.loop-floor-preserved
loop-floor-preserved c =
    let ps = c.args.records.now in
    let old = c.args.stack.now.items in
    let low = c.args.floor.now in
    let high = c.loop-floor.floor in
    subst (λ zs. Adds ps c.args.phase old low zs (high + 1)) (sym c.in_ok-push.ensures.items)
    (adds_one ps c.args.phase old low c.loop-floor.stack.items high _ c.loop-floor-test.true c.if-records-floor.true c.loop-floor.invariant)

pub returns-else-records-floor-clause-all : goal.returns-else-records-floor-clause-all
returns-else-records-floor-clause-all c =
    adds_stop c.args.records.now c.args.phase c.args.stack.now.items c.args.floor.now c.loop-floor.stack.items c.loop-floor.floor _
    c.loop-floor-test.true c.if-records-floor.false c.loop-floor.invariant

pub returns-after-loop-floor-clause-all : goal.returns-after-loop-floor-clause-all
returns-after-loop-floor-clause-all c =
    adds_past c.args.records.now c.args.phase c.args.stack.now.items c.args.floor.now c.loop-floor.stack.items c.loop-floor.floor
    c.loop-floor-test.false c.loop-floor.invariant

pub returns-in_err-push-clause-some : goal.returns-in_err-push-clause-some
returns-in_err-push-clause-some c =
    any_err _ _ (subst (λ zs. Adds c.args.records.now c.args.phase c.args.stack.now.items c.args.floor.now zs c.loop-floor.floor)
    (sym c.in_err-push.ensures.items) c.loop-floor.invariant)
