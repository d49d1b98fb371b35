use Rattle.std.proofs.Common.{◌-◌, ◌<◌, ◌∙◌, length, drop, get_or, sym, subst, arith}
use Rattle.pa_slot.specs.declared.title.Title.{Title}
use Rattle.pa_slot.specs.Links.{link_to}
use Rattle.pa_region.specs.declared.view.View.{View}
use Rattle.pa_link.specs.Chains.{IsChain, Relinked, SameBeside}
use Rattle.pa_link.proofs.Gaps.{free_same, relinked_once, relinked_more, beside_once}
use Rattle.pa_cache.proofs.Calls.{next_pushed}
use Rattle.pa_cache.proofs.cache.push_all.Goals as goal

pub loop-done-preserved : goal.loop-done-preserved
loop-done-preserved c =
    let none : Title = record { start = 0; len = 0; born = 0 } in
    let ts = c.args.titles.now in let done = c.loop-done.done in let before = c.loop-done.invariant in
    let t = get_or ts (length ts - 1 - done) none in
    let link = link_to c.loop-done.chain.head in
    let v = c.args.seat.now.view in let u = c.loop-done.seat.view in let w = c.push.new.seat.view in
    let less : done < length ts = c.loop-done-test.true in
    let next = next_pushed ts done none c.requires.different less in
    let free = subst (λ n. 0 < n) (sym (free_same v u before.relinked t)) (c.requires.free (length ts - 1 - done) none (omega arith)) in
    let last = subst (λ (x : View). SameBeside ts u.words x.words) (sym c.push.ensures.view) (beside_once t link u ts next.inside) in
    record {
      region = c.push.ensures.region ∙ before.region;
      relinked = relinked_more v u w before.relinked (subst (Relinked u) (sym c.push.ensures.view) (relinked_once t link u free));
      beside = λ q others. last q others ∙ before.beside q others;
      chain = subst (IsChain w c.push.new.self) (sym next.after) (c.push.ensures.chain (drop (length ts - done) ts) before.chain next.new);
      slot_len = c.push.ensures.slot_len ∙ before.slot_len;
    }
