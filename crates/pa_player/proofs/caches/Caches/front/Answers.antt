use Rattle.std.proofs.Common.{◌<◌, length, sym, ap, subst, arith}
use Rattle.pa_player.proofs.Rows.{are_read, list_part, summed_set}
use Rattle.pa_player.proofs.caches.Caches.front.Goals as goal

pub overflow_sub-index_mut : goal.overflow_sub-index_mut
overflow_sub-index_mut c =
    let among = subst (λ ls. c.args.at < length ls) (sym c.self.view_is) c.requires.among in
    let part = list_part (are_read c.self.invariant among c.index_mut.ensures.value c.index_mut-2.ensures.value) in
    omega (arith, part, ap length c.in_ok-place.ensures.some)

pub invariant_of-self-2 : goal.invariant_of-self-2
invariant_of-self-2 c =
    let among = subst (λ ls. c.args.at < length ls) (sym c.self.view_is) c.requires.among in
    let r = are_read c.self.invariant among c.index_mut.ensures.value c.index_mut-2.ensures.value in
    let slots = ap length c.in_ok-place.ensures.some in
    summed_set c.front.new.self _ r (omega (arith, slots, r.short)) (omega (arith, slots, list_part r))
