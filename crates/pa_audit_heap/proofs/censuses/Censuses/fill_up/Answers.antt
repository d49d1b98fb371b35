use Rattle.std.proofs.Common.{ℕ, ◌<◌, List, sym, subst}
use Rattle.pa_slot.proofs.Outcomes.{any_err}
use Rattle.pa_record.specs.Census.{census}
use Rattle.pa_record.specs.declared.census.Census.{Census}
use Rattle.pa_audit_heap.specs.Walking.{AreFilledUp}
use Rattle.pa_audit_heap.proofs.censuses.Censuses.fill_up.Goals as goal

pub returns-in_err-push-clause-some : goal.returns-in_err-push-clause-some
returns-in_err-push-clause-some c =
    let now = census c.args.root.now in
    let count = c.loop-phase._phase in
    let kept : AreFilledUp now count c.self.inside.items.items c.push.new.self.items =
    subst (λ (zs : List Census). AreFilledUp now count c.self.inside.items.items zs)
    (sym c.in_err-push.ensures.items) c.loop-phase.invariant in
    let some : (n : ℕ) × (n < c.args.to) × AreFilledUp now n c.args.self.now c.push.new.self.items =
    (count, c.loop-phase-test.true, subst (λ (zs : List Census). AreFilledUp now count zs c.push.new.self.items) c.self.view_is kept) in
    any_err c.from_residual.result _ some
