use Rattle.std.proofs.Common.{◌+◌, ◌≤◌, ◌∙◌, length, sym, subst, ap, arith}
use Rattle.pa_region.specs.Aware.{IsAware}
use Rattle.pa_rules.specs.Sizes.{HasClass}
use Rattle.pa_cache.specs.Caches.{CacheList, IsCache, batch_after, rest_after}
use Rattle.pa_cache.proofs.Middle.{outside_short}
use Rattle.pa_cache.specs.Chained.{list_in}
use Rattle.pa_op_specs.specs.Stocks.{StockValue, IsStock, titles_in}
use Rattle.pa_thread_state.specs.Allocating.{BecomesList, with_listed}
use Rattle.pa_thread_state.specs.Lists.{RelinksCache, lists_in}
use Rattle.pa_thread_state.proofs.Chained.{as_many, holds_at, relisted, stock_relinked}
use Rattle.pa_thread_state.proofs.Fronting.{part_at}
use Rattle.pa_thread_state.proofs.TitleLists.{in_rest}
use Rattle.pa_thread_state.proofs.Relisting.{relisted_stock}
use Rattle.pa_thread_state.proofs.Staying.{stock_of}
use Rattle.pa_thread_state.proofs.stock.Stock.take_batch.Goals as goal

pub spill-requires-clause-class : goal.spill-requires-clause-class
spill-requires-clause-class g c = subst (λ (z : StockValue). HasClass z.caches.version c.args.class) (sym c.self.view_is) c.requires.class

pub spill-requires-clause-list : goal.spill-requires-clause-list
spill-requires-clause-list g c =
    let v = c.self.inside.seat.view in let cs = c.self.inside.caches in
    let i = stock_of c.self.inside.thread c.self.inside.partitions c.self.inside.plain_from v c.self.inside.registers cs in
    let long = as_many v cs c.self.invariant.1.lists.count in
    let real = subst (λ (z : StockValue). HasClass z.caches.version c.args.class) (sym c.self.view_is) c.requires.class in
    holds_at v cs c.args.partition c.args.class c.requires.partition real long c.self.invariant.2

pub invariant_of-self : goal.invariant_of-self
invariant_of-self g c =
    let v = c.self.inside.seat.view in let cs = c.self.inside.caches in
    let i = stock_of c.self.inside.thread c.self.inside.partitions c.self.inside.plain_from v c.self.inside.registers cs in
    let long = as_many v cs c.self.invariant.1.lists.count in
    let p = c.args.partition in let class = c.args.class in let keep = c.args.keep in
    let w = c.spill.new.seat.view in let after = c.spill.new.self in let is = c.self.invariant.1 in
    let real = subst (λ (z : StockValue). HasClass z.caches.version class) (sym c.self.view_is) c.requires.class in
    let at = part_at i cs p class is c.requires.partition real in
    let aware = subst (λ (z : StockValue). IsAware z.view) (sym c.self.view_is) c.kept.ensures.aware in
    let ts = titles_in i.caches p class in
    let re = subst (λ us. RelinksCache p class us v w cs after) (ap (rest_after keep) at.titles_are) c.spill.ensures.rest in
    let both = relisted c.other_lists_stay.ensures v w cs after p class
    (rest_after keep ts) c.requires.partition real long aware c.self.invariant.2 re at.class_is
    (λ t inside. is.lists.well p class t (in_rest keep ts t inside))
    (λ t inside q other there. is.lists.apart q p other class t there (in_rest keep ts t inside)) in
    let now = re.becomes in
    let sound = subst (λ (l : CacheList). IsCache l)
    (ap (λ n. record { class = n; titles = (list_in w now.new).titles }) (now.class_is ∙ at.class_is)
    ∙ ap (λ us. record { class = class; titles = us }) now.titles_are) now.list.is in
    let few = is.lists.few p class in
    let short : length (rest_after keep ts) ≤ length ts = outside_short keep (keep + 16) ts (omega arith) in (
      c.spill.ensures.region ∙ c.self.invariant.0,
      subst (λ ls. IsStock (record i { view = w; caches = ls })) (sym both.1)
          (stock_relinked (record i { caches = with_listed p class (rest_after keep ts) i.caches }) w re.relinked
          (relisted_stock i p class (rest_after keep ts) is c.requires.partition real sound (omega (arith, few, short))
          (λ t among. let there = in_rest keep ts t among in record {
            free = is.lists.free p class t there;
            alone = λ q d other. is.lists.apart q p d class t other there;
            made = is.lists.made p class t there;
            well = is.lists.well p class t there;
          }))),
      both.0,
      c.self.invariant.3,
    )

pub returns-clause-titles : goal.returns-clause-titles
returns-clause-titles g c =
    let v = c.self.inside.seat.view in let cs = c.self.inside.caches in
    let i = stock_of c.self.inside.thread c.self.inside.partitions c.self.inside.plain_from v c.self.inside.registers cs in
    let long = as_many v cs c.self.invariant.1.lists.count in
    let p = c.args.partition in let class = c.args.class in let keep = c.args.keep in
    let w = c.spill.new.seat.view in let after = c.spill.new.self in let is = c.self.invariant.1 in
    let real = subst (λ (z : StockValue). HasClass z.caches.version class) (sym c.self.view_is) c.requires.class in
    let at = part_at i cs p class is c.requires.partition real in
    c.spill.ensures.batch ∙ (ap (batch_after keep) at.titles_are
    ∙ ap (λ (z : StockValue). batch_after keep (titles_in z.caches p class)) c.self.view_is)

pub returns-clause-rest : goal.returns-clause-rest
returns-clause-rest g c =
    let v = c.self.inside.seat.view in let cs = c.self.inside.caches in
    let i = stock_of c.self.inside.thread c.self.inside.partitions c.self.inside.plain_from v c.self.inside.registers cs in
    let long = as_many v cs c.self.invariant.1.lists.count in
    let p = c.args.partition in let class = c.args.class in let keep = c.args.keep in
    let w = c.spill.new.seat.view in let after = c.spill.new.self in let is = c.self.invariant.1 in
    let real = subst (λ (z : StockValue). HasClass z.caches.version class) (sym c.self.view_is) c.requires.class in
    let at = part_at i cs p class is c.requires.partition real in
    let aware = subst (λ (z : StockValue). IsAware z.view) (sym c.self.view_is) c.kept.ensures.aware in
    let ts = titles_in i.caches p class in
    let re = subst (λ us. RelinksCache p class us v w cs after) (ap (rest_after keep) at.titles_are) c.spill.ensures.rest in
    let both = relisted c.other_lists_stay.ensures v w cs after p class
    (rest_after keep ts) c.requires.partition real long aware c.self.invariant.2 re at.class_is
    (λ t inside. is.lists.well p class t (in_rest keep ts t inside))
    (λ t inside q other there. is.lists.apart q p other class t there (in_rest keep ts t inside)) in
    subst (λ (z : StockValue). BecomesList p class (rest_after keep (titles_in z.caches p class)) z
    (record i { view = w; caches = lists_in w after })) c.self.view_is
    (record { after_is = ap (λ ls. record i { view = w; caches = ls }) both.1; relinked = re.relinked })
