use Rattle.std.proofs.Common.{◌≡◌, arith, ap, subst, inl, inr}
use Rattle.std.proofs.lemmas.Bool.{cases_lt}
use Rattle.pa_record.specs.Pool.{IsFreeRun, PoolState}
use Rattle.pa_place.proofs.pool_plan.PoolPlan.lowest.Goals as goal

pub returns-then-is_free : goal.returns-then-is_free
returns-then-is_free c = (
  c.is_free.ensures.0 c.if-is_free.true,
  λ lower run. elim (cases_lt lower c.loop-first.first) [
    | inl less ↦ absurd (c.loop-first.invariant lower less run)
    | inr more ↦ more
  ],
)

pub loop-first-preserved : goal.loop-first-preserved
loop-first-preserved c = λ k below run. elim (cases_lt k c.loop-first.first) [
  | inl less ↦ c.loop-first.invariant k less run
  | inr more ↦
      let e : k ≡ c.loop-first.first = omega arith in
      let yes = c.is_free.ensures.1 (subst (λ n. IsFreeRun c.args.self.now c.args.count n) e run) in
      let no = c.if-is_free.false in
      cc
]

pub returns : goal.returns
returns c = λ first run.
    let e : c.self.inside.supers ≡ c.args.self.now.supers = ap (λ (s : PoolState). s.supers) c.self.view_is in
    let inside = run.inside in
    c.loop-first.invariant first (omega arith) run
