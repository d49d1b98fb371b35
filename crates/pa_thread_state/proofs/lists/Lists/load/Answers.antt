use Rattle.std.proofs.Common.{◌≡◌, length, sym, ◌∙◌, ap, subst, arith}
use Rattle.pa_rules.specs.Sizes.{HasClass}
use Rattle.pa_cache.specs.Chained.{CacheParts, list_in}
use Rattle.pa_thread_state.specs.Lists.{WorkerCaches, parts_of, with_parts}
use Rattle.pa_buckets.specs.Table.{slot_of}
use Rattle.pa_link.specs.Chains.{SameBeside}
use Rattle.pa_thread_state.proofs.Summing.{part_is, call_few, call_part, call_becomes, call_summed}
use Rattle.pa_thread_state.proofs.lists.Lists.load.Goals as goal

pub cache_place-at-requires-clause-class : goal.cache_place-at-requires-clause-class
cache_place-at-requires-clause-class c = subst (λ (z : WorkerCaches). HasClass z.version c.args.class) (sym c.self.view_is) c.requires.class

pub load-requires-clause-empty : goal.load-requires-clause-empty
load-requires-clause-empty c =
    let cs : WorkerCaches = record { version = c.self.inside.version; parts = c.self.inside.caches.items } in
    let p = c.args.partition in let class = c.args.class in let at = c.cache_place-at.result in let v = c.args.seat.now.view in
    let x = c.index_mut-cache.result.now in
    let real = subst (λ (z : WorkerCaches). HasClass z.version c.args.class) (sym c.self.view_is) c.requires.class in
    let there : x ≡ parts_of p class c.args.self.now =
    part_is cs p class at x c.requires.partition real c.self.invariant.many c.cache_place-at.ensures.place c.index_mut-cache.ensures.value ∙
    ap (parts_of p class) c.self.view_is in
    ap (λ (z : CacheParts). (list_in v z).titles) there ∙ c.requires.empty

pub load-requires-clause-size : goal.load-requires-clause-size
load-requires-clause-size c =
    let cs : WorkerCaches = record { version = c.self.inside.version; parts = c.self.inside.caches.items } in
    let p = c.args.partition in let class = c.args.class in let at = c.cache_place-at.result in let v = c.args.seat.now.view in
    let x = c.index_mut-cache.result.now in
    let real = subst (λ (z : WorkerCaches). HasClass z.version c.args.class) (sym c.self.view_is) c.requires.class in
    let there : x ≡ parts_of p class c.args.self.now =
    part_is cs p class at x c.requires.partition real c.self.invariant.many c.cache_place-at.ensures.place c.index_mut-cache.ensures.value ∙
    ap (parts_of p class) c.self.view_is in
    λ k d less. c.requires.size k d less ∙ ap (λ (z : CacheParts). slot_of z.class) (sym there)

pub changed_by-sum-requires : goal.changed_by-sum-requires
changed_by-sum-requires c =
    let cs : WorkerCaches = record { version = c.self.inside.version; parts = c.self.inside.caches.items } in
    let p = c.args.partition in let class = c.args.class in let at = c.cache_place-at.result in let v = c.args.seat.now.view in
    let x = c.index_mut-cache.result.now in let y = c.load.new.self in
    let real = subst (λ (z : WorkerCaches). HasClass z.version c.args.class) (sym c.self.view_is) c.requires.class in
    let was = call_few cs c.self.inside.sums p class at x y c.len-before.result c.len-after.result c.self.invariant c.requires.partition
    real c.cache_place-at.ensures.place
    c.index_mut-cache.ensures.value c.len-before.ensures c.len-after.ensures v in
    call_part cs c.self.inside.sums p class at x y c.len-before.result c.len-after.result c.self.invariant c.requires.partition real
    c.cache_place-at.ensures.place
    c.index_mut-cache.ensures.value c.len-before.ensures c.len-after.ensures v
    (let e = c.len-after.ensures c.load.new.seat.view in let f = ap length c.load.ensures.titles in let few = c.requires.few in
    omega (arith, e, f, few))

pub invariant_of-self : goal.invariant_of-self
invariant_of-self c =
    let cs : WorkerCaches = record { version = c.self.inside.version; parts = c.self.inside.caches.items } in
    let p = c.args.partition in let class = c.args.class in let at = c.cache_place-at.result in let v = c.args.seat.now.view in
    let x = c.index_mut-cache.result.now in let y = c.load.new.self in
    let real = subst (λ (z : WorkerCaches). HasClass z.version c.args.class) (sym c.self.view_is) c.requires.class in
    let was = call_few cs c.self.inside.sums p class at x y c.len-before.result c.len-after.result c.self.invariant c.requires.partition
    real c.cache_place-at.ensures.place
    c.index_mut-cache.ensures.value c.len-before.ensures c.len-after.ensures v in
    call_summed cs c.self.inside.sums p class at x y c.len-before.result c.len-after.result c.self.invariant c.requires.partition real
    c.cache_place-at.ensures.place
    c.index_mut-cache.ensures.value c.len-before.ensures c.len-after.ensures c.changed_by-sum.result
    (let e = c.len-after.ensures c.load.new.seat.view in let f = ap length c.load.ensures.titles in let few = c.requires.few in
    omega (arith, e, f, few)) c.changed_by-sum.ensures

pub returns-clause-loaded : goal.returns-clause-loaded
returns-clause-loaded c =
    let cs : WorkerCaches = record { version = c.self.inside.version; parts = c.self.inside.caches.items } in
    let p = c.args.partition in let class = c.args.class in let at = c.cache_place-at.result in let v = c.args.seat.now.view in
    let x = c.index_mut-cache.result.now in let y = c.load.new.self in
    let real = subst (λ (z : WorkerCaches). HasClass z.version c.args.class) (sym c.self.view_is) c.requires.class in
    let there : x ≡ parts_of p class c.args.self.now =
    part_is cs p class at x c.requires.partition real c.self.invariant.many c.cache_place-at.ensures.place c.index_mut-cache.ensures.value ∙
    ap (parts_of p class) c.self.view_is in
    let w = c.load.new.seat.view in
    let titles = c.load.ensures.titles in
    record {
      becomes = record {
        new = y;
        after_is = call_becomes cs c.self.inside.sums p class at x y c.len-before.result c.len-after.result c.self.invariant
            c.requires.partition real c.cache_place-at.ensures.place
            c.index_mut-cache.ensures.value c.len-before.ensures c.len-after.ensures
            ∙ ap (with_parts p class y) c.self.view_is;
        class_is = c.load.ensures.class ∙ ap (λ (z : CacheParts). z.class) there;
        titles_are = titles;
        list = c.load.ensures.list;
      };
      relinked = c.load.ensures.relinked;
      beside = subst (λ ts. SameBeside ts v.words w.words) titles c.load.ensures.beside;
    }
