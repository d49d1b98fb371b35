use Rattle.std.proofs.Common.{◌<◌, [], length, get_or, sym, ap, subst, arith}
use Rattle.pa_player.proofs.Rows.{are_read, sum_small, summed_set}
use Rattle.pa_player.proofs.caches.Caches.put.Goals as goal

pub overflow_add-index_mut : goal.overflow_add-index_mut
overflow_add-index_mut c =
    let among = subst (λ ls. c.args.at < length ls) (sym c.self.view_is) c.requires.among in
    let small = sum_small (are_read c.self.invariant among c.index_mut.ensures.value c.index_mut-2.ensures.value) in
    omega (arith, small, c.self.ranges)

pub invariant_of-self : goal.invariant_of-self
invariant_of-self c =
    let among = subst (λ ls. c.args.at < length ls) (sym c.self.view_is) c.requires.among in
    let r = are_read c.self.invariant among c.index_mut.ensures.value c.index_mut-2.ensures.value in
    let short = subst (λ ls. length (get_or ls c.args.at []) < 65) (sym c.self.view_is) c.requires.room in
    summed_set c.put.new.self _ r (omega (arith, ap length c.put.ensures, ap length r.list, short)) (omega (arith, ap length c.put.ensures))
