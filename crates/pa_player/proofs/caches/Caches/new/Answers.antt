use Rattle.std.proofs.Common.{◌≡◌, ◌*◌, length, sym, subst, arith}
use Rattle.pa_player.specs.Lists.{AreSummed}
use Rattle.pa_player.proofs.Rows.{none_summed}
use Rattle.pa_player.proofs.caches.Caches.new.Goals as goal

pub invariant_of-result : goal.invariant_of-result
invariant_of-result c =
    let many : length c.loop.lists.items ≡ c.args.rows * c.args.classes =
    omega (arith, c.loop.invariant.0, c.loop-test.false, c.loop.auto.counter-end) in
    subst (AreSummed c.loop.lists.items c.args.classes) (sym (c.in_ok-vec.ensures.items_if_clones_equal (λ y e. e)))
    (none_summed c.loop.lists.items c.args.rows c.args.classes many c.loop.invariant.1)
