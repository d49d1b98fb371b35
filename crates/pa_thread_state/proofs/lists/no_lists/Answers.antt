use Rattle.std.proofs.Common.{◌≡◌, ◌+◌, ◌*◌, ◌∙◌, [], ◌∷◌, ap, sym, subst, arith}
use Rattle.std.specs.Prelude.{All, map}
use Rattle.std.proofs.lemmas.List.Elements.{All-append, All-cons, All-nil}
use Rattle.pa_cache.specs.Chained.{HoldsList, list_in}
use Rattle.pa_rules.specs.Sizes.{class_total}
use Rattle.pa_op_specs.specs.Stocks.{AreNoLists}
use Rattle.pa_thread_state.proofs.Chained.{none_more}
use Rattle.pa_thread_state.proofs.lists.no_lists.Goals as goal

pub loop-place-preserved : goal.loop-place-preserved
loop-place-preserved c =
    let before = c.loop-place.invariant in let cs = c.loop-place.caches.items in let new = c.new.result in
    let items = c.in_ok-push.ensures.items in record {
      lists = λ w. subst (λ xs. AreNoLists c.args.version (c.loop-place.place + 1) (map (list_in w) xs)) (sym items)
          (none_more c.args.version c.loop-place.place w cs new (before.lists w)
          (c.new.ensures.list w ∙ ap (λ n. record { class = n; titles = [] }) c.class_at.ensures));
      holds = λ w. subst (All (HoldsList w)) (sym items) (All-append (HoldsList w) cs (new ∷ []) (before.holds w)
          (All-cons (HoldsList w) new [] (c.new.ensures.holds w) (All-nil (HoldsList w))));
    }

pub returns-clause-lists : goal.returns-clause-lists
returns-clause-lists c v =
    let count : c.loop-place.place ≡ 4 * class_total c.args.version =
    let all = ap (λ n. 4 * n) c.class_total-count.ensures.count in
    omega (arith, all, c.loop-place-test.false, c.loop-place.auto.place-end) in
    subst (λ n. AreNoLists c.args.version n (map (list_in v) c.loop-place.caches.items)) count (c.loop-place.invariant.lists v)
