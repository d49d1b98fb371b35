use Rattle.std.proofs.Common.{◌≡◌, ◌<◌, ◌∷◌, ◌∙◌, length, sym, subst, ap, arith}
use Rattle.std.specs.Prelude.{Contains}
use Rattle.pa_buckets.specs.Bands.{limit_of}
use Rattle.pa_buckets.specs.Table.{slot_of}
use Rattle.pa_region.specs.Aware.{IsAware}
use Rattle.pa_region.specs.Views.{free_of}
use Rattle.pa_rules.specs.Sizes.{HasClass}
use Rattle.pa_link.specs.Chains.{Relinked}
use Rattle.pa_cache.specs.Caches.{CacheList, IsCache}
use Rattle.pa_cache.specs.Chained.{list_in}
use Rattle.pa_op_specs.specs.Stocks.{StockValue, IsStock, titles_in}
use Rattle.pa_thread_state.specs.Changes.{CanList, put_in_front}
use Rattle.pa_thread_state.specs.Lists.{RelinksCache, parts_of}
use Rattle.pa_thread_state.proofs.Chained.{as_many, holds_at, relisted, stock_relinked, front_well, front_alone}
use Rattle.pa_thread_state.proofs.Fronting.{part_at, fronted_stock}
use Rattle.pa_thread_state.proofs.Homing.{made_long}
use Rattle.pa_thread_state.proofs.Staying.{stock_of}
use Rattle.pa_thread_state.proofs.stock.Stock.list.Goals as goal

pub push-requires-clause-partition : goal.push-requires-clause-partition
push-requires-clause-partition g c = c.requires.can.made.partition

pub push-requires-clause-class : goal.push-requires-clause-class
push-requires-clause-class g c = subst (λ (z : StockValue). HasClass z.caches.version c.args.class) (sym c.self.view_is) c.requires.class

pub push-requires-clause-list : goal.push-requires-clause-list
push-requires-clause-list g c =
    let v = c.self.inside.seat.view in let cs = c.self.inside.caches in
    let i = stock_of c.self.inside.thread c.self.inside.partitions c.self.inside.plain_from v c.self.inside.registers cs in
    let long = as_many v cs c.self.invariant.1.lists.count in
    let real = subst (λ (z : StockValue). HasClass z.caches.version c.args.class) (sym c.self.view_is) c.requires.class in
    holds_at v cs c.args.handle.now.partition c.args.class c.requires.can.made.partition real long c.self.invariant.2

pub push-requires-clause-few : goal.push-requires-clause-few
push-requires-clause-few g c =
    let v = c.self.inside.seat.view in let cs = c.self.inside.caches in
    let i = stock_of c.self.inside.thread c.self.inside.partitions c.self.inside.plain_from v c.self.inside.registers cs in
    let long = as_many v cs c.self.invariant.1.lists.count in
    let p = c.args.handle.now.partition in let class = c.args.class in
    let can = subst (λ (z : StockValue). CanList c.args.handle.now class z) (sym c.self.view_is) c.requires.can in
    let real = subst (λ (z : StockValue). HasClass z.caches.version class) (sym c.self.view_is) c.requires.class in
    let at = part_at i cs p class c.self.invariant.1 can.made.partition real in
    let room = can.room in
    let many : length (list_in v (parts_of p class cs)).titles ≡ length (titles_in i.caches p class) = ap length at.titles_are in
    let limit : limit_of (parts_of p class cs).class ≡ limit_of class = ap limit_of at.class_is in
    omega (arith, room, many, limit)

pub push-requires-clause-able : goal.push-requires-clause-able
push-requires-clause-able g c =
    subst (λ (z : StockValue). 0 < free_of z.view c.args.handle.now.title) (sym c.self.view_is) c.requires.can.free

pub push-requires-clause-size : goal.push-requires-clause-size
push-requires-clause-size g c =
    let v = c.self.inside.seat.view in let cs = c.self.inside.caches in
    let i = stock_of c.self.inside.thread c.self.inside.partitions c.self.inside.plain_from v c.self.inside.registers cs in
    let long = as_many v cs c.self.invariant.1.lists.count in
    let h = c.args.handle.now in let class = c.args.class in
    let real = subst (λ (z : StockValue). HasClass z.caches.version class) (sym c.self.view_is) c.requires.class in
    let at = part_at i cs h.partition class c.self.invariant.1 c.requires.can.made.partition real in
    made_long h c.args.self.now.view class c.requires.can.made c.requires.can.class_is ∙ ap slot_of (sym at.class_is)

pub push-requires-clause-new : goal.push-requires-clause-new
push-requires-clause-new g c among =
    let v = c.self.inside.seat.view in let cs = c.self.inside.caches in
    let i = stock_of c.self.inside.thread c.self.inside.partitions c.self.inside.plain_from v c.self.inside.registers cs in
    let long = as_many v cs c.self.invariant.1.lists.count in
    let h = c.args.handle.now in let class = c.args.class in
    let can = subst (λ (z : StockValue). CanList h class z) (sym c.self.view_is) c.requires.can in
    let real = subst (λ (z : StockValue). HasClass z.caches.version class) (sym c.self.view_is) c.requires.class in
    let at = part_at i cs h.partition class c.self.invariant.1 can.made.partition real in
    can.new h.partition class (subst (λ ts. Contains ts h.title) at.titles_are among)

pub invariant_of-self : goal.invariant_of-self
invariant_of-self g c =
    let v = c.self.inside.seat.view in let cs = c.self.inside.caches in
    let i = stock_of c.self.inside.thread c.self.inside.partitions c.self.inside.plain_from v c.self.inside.registers cs in
    let long = as_many v cs c.self.invariant.1.lists.count in
    let h = c.args.handle.now in let class = c.args.class in let w = c.push.new.seat.view in let after = c.push.new.self in
    let can = subst (λ (z : StockValue). CanList h class z) (sym c.self.view_is) c.requires.can in
    let real = subst (λ (z : StockValue). HasClass z.caches.version class) (sym c.self.view_is) c.requires.class in
    let aware = subst (λ (z : StockValue). IsAware z.view) (sym c.self.view_is) c.kept.ensures.aware in
    let at = part_at i cs h.partition class c.self.invariant.1 can.made.partition real in
    let ts = h.title ∷ titles_in i.caches h.partition class in
    let re = subst (λ us. RelinksCache h.partition class us v w cs after) (ap (λ us. h.title ∷ us) at.titles_are) c.push.ensures.front in
    let both = relisted c.other_lists_stay.ensures v w cs after h.partition class ts can.made.partition real long aware c.self.invariant.2
    re at.class_is
    (front_well i h class c.self.invariant.1 can) (front_alone i h class c.self.invariant.1 can) in
    let now = re.becomes in
    let sound = subst (λ (l : CacheList). IsCache l)
    (ap (λ n. record { class = n; titles = (list_in w now.new).titles }) (now.class_is ∙ at.class_is)
    ∙ ap (λ us. record { class = class; titles = us }) now.titles_are) now.list.is in (
      c.push.ensures.region ∙ c.self.invariant.0,
      subst (λ ls. IsStock (record i { view = w; caches = ls })) (sym both.1)
          (stock_relinked (record i { caches = put_in_front h.partition class h.title i.caches }) w re.relinked
          (fronted_stock i h class c.self.invariant.1 can real sound)),
      both.0,
      c.self.invariant.3,
    )

pub returns : goal.returns
returns g c =
    let v = c.self.inside.seat.view in let cs = c.self.inside.caches in
    let i = stock_of c.self.inside.thread c.self.inside.partitions c.self.inside.plain_from v c.self.inside.registers cs in
    let long = as_many v cs c.self.invariant.1.lists.count in
    let h = c.args.handle.now in let class = c.args.class in let w = c.push.new.seat.view in let after = c.push.new.self in
    let can = subst (λ (z : StockValue). CanList h class z) (sym c.self.view_is) c.requires.can in
    let real = subst (λ (z : StockValue). HasClass z.caches.version class) (sym c.self.view_is) c.requires.class in
    let aware = subst (λ (z : StockValue). IsAware z.view) (sym c.self.view_is) c.kept.ensures.aware in
    let at = part_at i cs h.partition class c.self.invariant.1 can.made.partition real in
    let ts = h.title ∷ titles_in i.caches h.partition class in
    let re = subst (λ us. RelinksCache h.partition class us v w cs after) (ap (λ us. h.title ∷ us) at.titles_are) c.push.ensures.front in
    let both = relisted c.other_lists_stay.ensures v w cs after h.partition class ts can.made.partition real long aware c.self.invariant.2
    re at.class_is
    (front_well i h class c.self.invariant.1 can) (front_alone i h class c.self.invariant.1 can) in
    record {
      after_is = ap (λ ls. record i { view = w; caches = ls }) both.1
          ∙ ap (λ (z : StockValue). record z { view = w; caches = put_in_front h.partition class h.title z.caches }) c.self.view_is;
      relinked = subst (λ (z : StockValue). Relinked z.view w) c.self.view_is re.relinked;
    }
