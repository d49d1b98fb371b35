use Rattle.std.proofs.Common.{◌<◌, [], get_or, length, sym, ap, ◌∙◌, arith, inl, inr}
use Rattle.std.proofs.lemmas.Bool.{cases_lt}
use Rattle.pa_player.proofs.Rows.{none_left, row_end}
use Rattle.pa_player.proofs.caches.Caches.next_with_slots.Goals as goal

pub lists-preserved-then-index-eq0 : goal.lists-preserved-then-index-eq0
lists-preserved-then-index-eq0 c =
    let among : c.lists.at < length c.self.inside.lists.items =
    omega (arith, c.lists-test.true, c.requires.among, ap length c.self.view_is) in
    let past = row_end c.self.invariant among in
    record {
      from = omega (arith, past, c.min-at.ensures, c.lists-test.true, c.lists.invariant.from);
      to = omega (arith, c.min-at.ensures);
      empty = λ k from low. elim (cases_lt k c.lists.at) [
        | inl before ↦ c.lists.invariant.empty k from before
        | inr at ↦
            ap (λ ls. get_or ls k []) (sym c.self.view_is) ∙
            none_left k c.self.invariant among c.index.ensures c.if-index-eq0.true at (omega (arith, low, c.min-at.ensures))
      ];
    }
