use Rattle.std.proofs.Common.{◌≡◌, ◌++◌, ◌∙◌, refl, sym, subst, ap}
use Rattle.std.specs.Prelude.{All}
use Rattle.std.specs.Option.{option_to_list}
use Rattle.std.proofs.lemmas.List.{map-set}
use Rattle.std.proofs.lemmas.List.Elements.{All-set}
use Rattle.pa_region.specs.Shares.{Share}
use Rattle.pa_rules.specs.Sizes.{HasClass}
use Rattle.pa_cache.specs.Chained.{HoldsList, list_in}
use Rattle.pa_rules.specs.Lists.{cache_place}
use Rattle.pa_op_specs.specs.Stocks.{StockValue, IsStock}
use Rattle.pa_thread_state.specs.Allocating.{Pops}
use Rattle.pa_thread_state.specs.Lists.{WorkerCaches, lists_in, parts_of}
use Rattle.pa_thread_state.proofs.Chained.{as_many, holds_at}
use Rattle.pa_thread_state.proofs.Fronting.{part_at}
use Rattle.pa_thread_state.proofs.Popping.{popped_stock, pops}
use Rattle.pa_thread_state.proofs.Staying.{stock_of}
use Rattle.pa_thread_state.proofs.stock.Stock.pop.Goals as goal

pub pop-requires-clause-class : goal.pop-requires-clause-class
pop-requires-clause-class g c = subst (λ (z : StockValue). HasClass z.caches.version c.args.class) (sym c.self.view_is) c.requires.class

pub pop-requires-clause-list : goal.pop-requires-clause-list
pop-requires-clause-list g c =
    let v = c.self.inside.seat.view in let cs = c.self.inside.caches in
    let i = stock_of c.self.inside.thread c.self.inside.partitions c.self.inside.plain_from v c.self.inside.registers cs in
    let long = as_many v cs c.self.invariant.1.lists.count in
    let real = subst (λ (z : StockValue). HasClass z.caches.version c.args.class) (sym c.self.view_is) c.requires.class in
    holds_at v cs c.args.partition c.args.class c.requires.partition real long c.self.invariant.2

pub invariant_of-self : goal.invariant_of-self
invariant_of-self g c =
    let v = c.self.inside.seat.view in let cs = c.self.inside.caches in
    let i = stock_of c.self.inside.thread c.self.inside.partitions c.self.inside.plain_from v c.self.inside.registers cs in
    let long = as_many v cs c.self.invariant.1.lists.count in
    let p = c.args.partition in let class = c.args.class in let place = cache_place cs.version p class in
    let real = subst (λ (z : StockValue). HasClass z.caches.version class) (sym c.self.view_is) c.requires.class in
    let at = part_at i cs p class c.self.invariant.1 c.requires.partition real in
    let out = c.pop.ensures.pops in let now = out.becomes in let y = now.new in
    let front : (list_in v (parts_of p class cs)).titles ≡ option_to_list c.pop.result ++ (list_in v y).titles =
    out.was ∙ ap (λ ts. option_to_list c.pop.result ++ ts) (sym now.titles_are) in
    subst (λ (s : Share). (s.region ≡ g.N.Name.region) × IsStock (record i { view = s.view; caches = lists_in s.view c.pop.new.self })
    × All (HoldsList s.view) c.pop.new.self.parts × (i.plain_from ≡ g.N.Name.plain_from)) (sym c.pop.ensures.seat) (
      c.self.invariant.0,
      subst (λ (z : WorkerCaches). IsStock (record i { caches = lists_in v z })) (sym now.after_is)
          (subst (λ ls. IsStock (record i { caches = record i.caches { lists = ls } })) (sym (map-set (list_in v) cs.parts place y))
          (popped_stock i p class place (list_in v (parts_of p class cs))
          (list_in v y) c.pop.result c.self.invariant.1 c.requires.partition real at refl
          now.class_is front now.list.is)),
      subst (λ (z : WorkerCaches). All (HoldsList v) z.parts) (sym now.after_is)
          (All-set (HoldsList v) cs.parts place y now.list c.self.invariant.2),
      c.self.invariant.3,
    )

pub returns : goal.returns
returns g c =
    let v = c.self.inside.seat.view in let cs = c.self.inside.caches in
    let i = stock_of c.self.inside.thread c.self.inside.partitions c.self.inside.plain_from v c.self.inside.registers cs in
    let long = as_many v cs c.self.invariant.1.lists.count in
    let p = c.args.partition in let class = c.args.class in let place = cache_place cs.version p class in
    let real = subst (λ (z : StockValue). HasClass z.caches.version class) (sym c.self.view_is) c.requires.class in
    let at = part_at i cs p class c.self.invariant.1 c.requires.partition real in
    let out = c.pop.ensures.pops in let now = out.becomes in let y = now.new in
    let front : (list_in v (parts_of p class cs)).titles ≡ option_to_list c.pop.result ++ (list_in v y).titles =
    out.was ∙ ap (λ ts. option_to_list c.pop.result ++ ts) (sym now.titles_are) in
    subst (λ (z : StockValue). Pops p class c.pop.result z
    (record i { view = c.pop.new.seat.view; caches = lists_in c.pop.new.seat.view c.pop.new.self }))
    c.self.view_is
    (subst (λ (s : Share). Pops p class c.pop.result i (record i { view = s.view; caches = lists_in s.view c.pop.new.self }))
    (sym c.pop.ensures.seat)
    (subst (λ (z : WorkerCaches). Pops p class c.pop.result i (record i { caches = lists_in v z })) (sym now.after_is)
    (subst (λ ls. Pops p class c.pop.result i (record i { caches = record i.caches { lists = ls } }))
    (sym (map-set (list_in v) cs.parts place y))
    (pops i p class place (list_in v (parts_of p class cs))
    (list_in v y) c.pop.result real at refl now.class_is front c.pop.ensures.none c.pop.ensures.size))))
