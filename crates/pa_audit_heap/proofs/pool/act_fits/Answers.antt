use Rattle.std.proofs.Common.{◌≡◌, sym, subst, arith}
use Rattle.pa_record.specs.Pool.{PoolActFits, IsLowest}
use Rattle.pa_record.proofs.PoolSteps.{pool_answers}
use Rattle.pa_audit_heap.proofs.pool.act_fits.Goals as goal

pub returns-then-count-ge1-clause-fits : goal.returns-then-count-ge1-clause-fits
returns-then-count-ge1-clause-fits c =
    let pools = c.args.pools.now in
    let s = c.args.plan.now in
    let count = c.in-Take.count in (
      λ yes.
          let same : c.take.result ≡ c.in-Take.first = grind (arith, c.eq.ensures) in
          subst (λ a. PoolActFits pools c.args.entry.partition a s) (sym c.in-Take.is)
          (c.if-count-ge1.true, subst (λ f. IsLowest s count f) same c.take.ensures.lowest),
      λ fits.
          let there = subst (λ a. PoolActFits pools c.args.entry.partition a s) c.in-Take.is fits in
          let same : c.take.result ≡ c.in-Take.first =
          pool_answers.lowest s count c.take.result c.in-Take.first c.take.ensures.lowest there.1 in
          grind (arith, c.eq.ensures),
    )
