use Rattle.std.proofs.Common.{◌∙◌, sym, subst, ap}
use Rattle.std.proofs.lemmas.List.Elements.{All-contains}
use Rattle.pa_slot.specs.Titles.{IsWellFormed}
use Rattle.pa_buckets.specs.Table.{slot_of}
use Rattle.pa_region.specs.Aware.{IsAware}
use Rattle.pa_rules.specs.Sizes.{HasClass}
use Rattle.pa_link.specs.Chains.{Relinked}
use Rattle.pa_cache.specs.Caches.{CacheList, IsCache}
use Rattle.pa_cache.specs.Chained.{list_in}
use Rattle.pa_op_specs.specs.Stocks.{StockValue, IsStock}
use Rattle.pa_thread_state.specs.Allocating.{CanLoad, with_listed}
use Rattle.pa_thread_state.proofs.Chained.{as_many, relisted, stock_relinked}
use Rattle.pa_thread_state.proofs.Fronting.{part_at}
use Rattle.pa_thread_state.proofs.Receiving.{loaded_stock, loads_free}
use Rattle.pa_thread_state.proofs.Staying.{stock_of}
use Rattle.pa_thread_state.proofs.stock.Stock.load.Goals as goal

pub all_placed-requires : goal.all_placed-requires
all_placed-requires g c =
    let v = c.self.inside.seat.view in let cs = c.self.inside.caches in
    let i = stock_of c.self.inside.thread c.self.inside.partitions c.self.inside.plain_from v c.self.inside.registers cs in
    let long = as_many v cs c.self.invariant.1.lists.count in
    loads_free i c.args.partition c.args.class c.args.titles.now
    (subst (λ (z : StockValue). CanLoad c.args.partition c.args.class c.args.titles.now z) (sym c.self.view_is) c.requires.can)

pub load-requires-clause-partition : goal.load-requires-clause-partition
load-requires-clause-partition g c = c.requires.can.partition

pub load-requires-clause-class : goal.load-requires-clause-class
load-requires-clause-class g c = subst (λ (z : StockValue). HasClass z.caches.version c.args.class) (sym c.self.view_is) c.requires.class

pub load-requires-clause-empty : goal.load-requires-clause-empty
load-requires-clause-empty g c =
    let v = c.self.inside.seat.view in let cs = c.self.inside.caches in
    let i = stock_of c.self.inside.thread c.self.inside.partitions c.self.inside.plain_from v c.self.inside.registers cs in
    let long = as_many v cs c.self.invariant.1.lists.count in
    let p = c.args.partition in let class = c.args.class in
    let can = subst (λ (z : StockValue). CanLoad p class c.args.titles.now z) (sym c.self.view_is) c.requires.can in
    let real = subst (λ (z : StockValue). HasClass z.caches.version class) (sym c.self.view_is) c.requires.class in
    (part_at i cs p class c.self.invariant.1 can.partition real).titles_are ∙ can.empty

pub load-requires-clause-few : goal.load-requires-clause-few
load-requires-clause-few g c = c.requires.can.batch

pub load-requires-clause-free : goal.load-requires-clause-free
load-requires-clause-free g c =
    let v = c.self.inside.seat.view in let cs = c.self.inside.caches in
    let i = stock_of c.self.inside.thread c.self.inside.partitions c.self.inside.plain_from v c.self.inside.registers cs in
    let long = as_many v cs c.self.invariant.1.lists.count in
    loads_free i c.args.partition c.args.class c.args.titles.now
    (subst (λ (z : StockValue). CanLoad c.args.partition c.args.class c.args.titles.now z) (sym c.self.view_is) c.requires.can)

pub load-requires-clause-size : goal.load-requires-clause-size
load-requires-clause-size g c =
    let v = c.self.inside.seat.view in let cs = c.self.inside.caches in
    let i = stock_of c.self.inside.thread c.self.inside.partitions c.self.inside.plain_from v c.self.inside.registers cs in
    let long = as_many v cs c.self.invariant.1.lists.count in
    let p = c.args.partition in let class = c.args.class in
    let can = subst (λ (z : StockValue). CanLoad p class c.args.titles.now z) (sym c.self.view_is) c.requires.can in
    let real = subst (λ (z : StockValue). HasClass z.caches.version class) (sym c.self.view_is) c.requires.class in
    let at = part_at i cs p class c.self.invariant.1 can.partition real in
    λ k d less. can.sized k d less ∙ ap slot_of (sym at.class_is)

pub load-requires-clause-different : goal.load-requires-clause-different
load-requires-clause-different g c = c.requires.can.differ

pub invariant_of-self : goal.invariant_of-self
invariant_of-self g c =
    let v = c.self.inside.seat.view in let cs = c.self.inside.caches in
    let i = stock_of c.self.inside.thread c.self.inside.partitions c.self.inside.plain_from v c.self.inside.registers cs in
    let long = as_many v cs c.self.invariant.1.lists.count in
    let p = c.args.partition in let class = c.args.class in let ts = c.args.titles.now in
    let w = c.load.new.seat.view in let after = c.load.new.self in
    let can = subst (λ (z : StockValue). CanLoad p class ts z) (sym c.self.view_is) c.requires.can in
    let real = subst (λ (z : StockValue). HasClass z.caches.version class) (sym c.self.view_is) c.requires.class in
    let aware = subst (λ (z : StockValue). IsAware z.view) (sym c.self.view_is) c.kept.ensures.aware in
    let at = part_at i cs p class c.self.invariant.1 can.partition real in
    let re = c.load.ensures.loaded in
    let both = relisted c.other_lists_stay.ensures v w cs after p class ts can.partition real long aware c.self.invariant.2 re at.class_is
    (λ t inside. (_, All-contains (IsWellFormed _) ts t c.all_placed.ensures inside))
    (λ t inside q other there. absurd (can.new q other t there inside)) in
    let now = re.becomes in
    let sound = subst (λ (l : CacheList). IsCache l)
    (ap (λ n. record { class = n; titles = (list_in w now.new).titles }) (now.class_is ∙ at.class_is)
    ∙ ap (λ us. record { class = class; titles = us }) now.titles_are) now.list.is in (
      c.load.ensures.region ∙ c.self.invariant.0,
      subst (λ ls. IsStock (record i { view = w; caches = ls })) (sym both.1)
          (stock_relinked (record i { caches = with_listed p class ts i.caches }) w re.relinked
          (loaded_stock i p class ts _ c.self.invariant.1 can real sound c.all_placed.ensures)),
      both.0,
      c.self.invariant.3,
    )

pub returns : goal.returns
returns g c =
    let v = c.self.inside.seat.view in let cs = c.self.inside.caches in
    let i = stock_of c.self.inside.thread c.self.inside.partitions c.self.inside.plain_from v c.self.inside.registers cs in
    let long = as_many v cs c.self.invariant.1.lists.count in
    let p = c.args.partition in let class = c.args.class in let ts = c.args.titles.now in
    let w = c.load.new.seat.view in let after = c.load.new.self in
    let can = subst (λ (z : StockValue). CanLoad p class ts z) (sym c.self.view_is) c.requires.can in
    let real = subst (λ (z : StockValue). HasClass z.caches.version class) (sym c.self.view_is) c.requires.class in
    let aware = subst (λ (z : StockValue). IsAware z.view) (sym c.self.view_is) c.kept.ensures.aware in
    let at = part_at i cs p class c.self.invariant.1 can.partition real in
    let re = c.load.ensures.loaded in
    let both = relisted c.other_lists_stay.ensures v w cs after p class ts can.partition real long aware c.self.invariant.2 re at.class_is
    (λ t inside. (_, All-contains (IsWellFormed _) ts t c.all_placed.ensures inside))
    (λ t inside q other there. absurd (can.new q other t there inside)) in
    record {
      loaded = record {
        after_is = ap (λ ls. record i { view = w; caches = ls }) both.1
            ∙ ap (λ (z : StockValue). record z { view = w; caches = with_listed p class ts z.caches }) c.self.view_is;
        relinked = subst (λ (z : StockValue). Relinked z.view w) c.self.view_is re.relinked;
      };
    }
