use Rattle.std.proofs.Common.{◌≡◌, ◌+◌, sym, ap, subst}
use Rattle.pa_record.specs.Pool.{PoolState}
use Rattle.pa_place.specs.Placed.{IsStep}
use Rattle.pa_place.proofs.placement.Placement.unmap.Goals as goal

pub returns-clause-step : goal.returns-clause-step
returns-clause-step c =
    let n = c.args.pool.now.entries in
    let m : n + 1 ≡ c.give.new.self.entries = sym (ap (λ (p : PoolState). p.entries) c.give.ensures) in
    subst (λ k. IsStep n k c.args.self.now c.unmap.new.self.root) m
    (subst (λ r. IsStep n (n + 1) r c.unmap.new.self.root) c.self.view_is (c.unmap.ensures.step n))
