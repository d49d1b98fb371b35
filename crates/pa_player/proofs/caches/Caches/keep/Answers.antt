use Rattle.std.proofs.Common.{◌<◌, length, sym, ap, ◌∙◌, subst, arith}
use Rattle.std.proofs.lemmas.List.{length-take}
use Rattle.pa_player.proofs.Rows.{are_read, list_part, summed_set}
use Rattle.pa_player.proofs.caches.Caches.keep.Goals as goal

pub overflow_sub-index_mut : goal.overflow_sub-index_mut
overflow_sub-index_mut c =
    let among = subst (λ ls. c.args.at < length ls) (sym c.self.view_is) c.requires.among in
    let part = list_part (are_read c.self.invariant among c.index_mut-list.ensures.value c.index_mut.ensures.value) in
    omega (arith, part, c.saturating_sub-dropped.ensures, ap length c.places.ensures.places)

pub invariant_of-self : goal.invariant_of-self
invariant_of-self c =
    let among = subst (λ ls. c.args.at < length ls) (sym c.self.view_is) c.requires.among in
    let r = are_read c.self.invariant among c.index_mut-list.ensures.value c.index_mut.ensures.value in
    let dropped = c.saturating_sub-dropped.ensures in
    let had = ap length c.places.ensures.places in
    let has = ap length c.keep.ensures ∙ length-take c.args.count c.index_mut-list.result.now in
    summed_set c.keep.new.self _ r (omega (arith, has, r.short)) (omega (arith, dropped, had, has, list_part r))
