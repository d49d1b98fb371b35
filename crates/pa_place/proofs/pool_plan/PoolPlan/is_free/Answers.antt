use Rattle.std.proofs.Common.{◌≡◌, arith, ap, subst, sym}
use Rattle.std.specs.Prelude.{All}
use Rattle.std.proofs.lemmas.List.Elements.{All-contains}
use Rattle.pa_record.specs.Pool.{PoolState, IsApart}
use Rattle.pa_place.proofs.pool_plan.PoolPlan.is_free.Goals as goal
use Rattle.pa_lists.proofs.Elements.{all_from_members}

pub returns-then-inside : goal.returns-then-inside
returns-then-inside c =
    let P = IsApart c.args.first c.args.count in
    let e = ap (λ (s : PoolState). s.supers) c.self.view_is in
    let f = ap (λ (s : PoolState). s.taken) c.self.view_is in
    let same : c.deref.result.now ≡ c.args.self.now.taken = cc in (
      λ yes. record {
        inside = omega arith;
        free = λ t among. All-contains P c.args.self.now.taken t (subst (λ xs. All P xs) same (c.are_apart.ensures.0 yes)) among;
      },
      λ run. c.are_apart.ensures.1 (subst (λ xs. All P xs) (sym same) (all_from_members P c.args.self.now.taken run.free)),
    )
