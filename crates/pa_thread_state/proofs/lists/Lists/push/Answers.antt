use Rattle.std.proofs.Common.{◌≡◌, ◌≤◌, length, sym, ◌∙◌, ap, subst, arith}
use Rattle.pa_rules.specs.Sizes.{HasClass}
use Rattle.pa_cache.specs.Chained.{CacheParts, HoldsList, list_in}
use Rattle.pa_thread_state.specs.Lists.{WorkerCaches, parts_of, with_parts}
use Rattle.std.specs.Prelude.{◌∷◌, Contains}
use Rattle.pa_buckets.specs.Bands.{limit_of}
use Rattle.pa_buckets.specs.Table.{slot_of}
use Rattle.pa_link.specs.Chains.{SameBeside}
use Rattle.pa_thread_state.proofs.Summing.{part_is, call_few, call_part, call_becomes, call_summed}
use Rattle.pa_thread_state.proofs.lists.Lists.push.Goals as goal

pub cache_place-at-requires-clause-class : goal.cache_place-at-requires-clause-class
cache_place-at-requires-clause-class c = subst (λ (z : WorkerCaches). HasClass z.version c.args.class) (sym c.self.view_is) c.requires.class

pub push-requires-clause-list : goal.push-requires-clause-list
push-requires-clause-list c =
    let cs : WorkerCaches = record { version = c.self.inside.version; parts = c.self.inside.caches.items } in
    let p = c.args.partition in let class = c.args.class in let at = c.cache_place-at.result in let v = c.args.seat.now.view in
    let x = c.index_mut-cache.result.now in
    let real = subst (λ (z : WorkerCaches). HasClass z.version c.args.class) (sym c.self.view_is) c.requires.class in
    let there : x ≡ parts_of p class c.args.self.now =
    part_is cs p class at x c.requires.partition real c.self.invariant.many c.cache_place-at.ensures.place c.index_mut-cache.ensures.value ∙
    ap (parts_of p class) c.self.view_is in
    subst (HoldsList v) (sym there) c.requires.list

pub push-requires-clause-few : goal.push-requires-clause-few
push-requires-clause-few c =
    let cs : WorkerCaches = record { version = c.self.inside.version; parts = c.self.inside.caches.items } in
    let p = c.args.partition in let class = c.args.class in let at = c.cache_place-at.result in let v = c.args.seat.now.view in
    let x = c.index_mut-cache.result.now in
    let real = subst (λ (z : WorkerCaches). HasClass z.version c.args.class) (sym c.self.view_is) c.requires.class in
    let there : x ≡ parts_of p class c.args.self.now =
    part_is cs p class at x c.requires.partition real c.self.invariant.many c.cache_place-at.ensures.place c.index_mut-cache.ensures.value ∙
    ap (parts_of p class) c.self.view_is in
    subst (λ (z : CacheParts). length (list_in v z).titles ≤ limit_of z.class) (sym there) c.requires.few

pub push-requires-clause-size : goal.push-requires-clause-size
push-requires-clause-size c =
    let cs : WorkerCaches = record { version = c.self.inside.version; parts = c.self.inside.caches.items } in
    let p = c.args.partition in let class = c.args.class in let at = c.cache_place-at.result in let v = c.args.seat.now.view in
    let x = c.index_mut-cache.result.now in
    let real = subst (λ (z : WorkerCaches). HasClass z.version c.args.class) (sym c.self.view_is) c.requires.class in
    let there : x ≡ parts_of p class c.args.self.now =
    part_is cs p class at x c.requires.partition real c.self.invariant.many c.cache_place-at.ensures.place c.index_mut-cache.ensures.value ∙
    ap (parts_of p class) c.self.view_is in
    c.requires.size ∙ ap (λ (z : CacheParts). slot_of z.class) (sym there)

pub push-requires-clause-new : goal.push-requires-clause-new
push-requires-clause-new c =
    let cs : WorkerCaches = record { version = c.self.inside.version; parts = c.self.inside.caches.items } in
    let p = c.args.partition in let class = c.args.class in let at = c.cache_place-at.result in let v = c.args.seat.now.view in
    let x = c.index_mut-cache.result.now in
    let real = subst (λ (z : WorkerCaches). HasClass z.version c.args.class) (sym c.self.view_is) c.requires.class in
    let there : x ≡ parts_of p class c.args.self.now =
    part_is cs p class at x c.requires.partition real c.self.invariant.many c.cache_place-at.ensures.place c.index_mut-cache.ensures.value ∙
    ap (parts_of p class) c.self.view_is in
    λ among. c.requires.new (subst (λ (z : CacheParts). Contains (list_in v z).titles c.args.title) there among)

pub changed_by-sum-requires : goal.changed_by-sum-requires
changed_by-sum-requires c =
    let cs : WorkerCaches = record { version = c.self.inside.version; parts = c.self.inside.caches.items } in
    let p = c.args.partition in let class = c.args.class in let at = c.cache_place-at.result in let v = c.args.seat.now.view in
    let x = c.index_mut-cache.result.now in let y = c.push.new.self in
    let real = subst (λ (z : WorkerCaches). HasClass z.version c.args.class) (sym c.self.view_is) c.requires.class in
    let there : x ≡ parts_of p class c.args.self.now =
    part_is cs p class at x c.requires.partition real c.self.invariant.many c.cache_place-at.ensures.place c.index_mut-cache.ensures.value ∙
    ap (parts_of p class) c.self.view_is in
    let was = call_few cs c.self.inside.sums p class at x y c.len-before.result c.len-after.result c.self.invariant c.requires.partition
    real c.cache_place-at.ensures.place
    c.index_mut-cache.ensures.value c.len-before.ensures c.len-after.ensures v in
    call_part cs c.self.inside.sums p class at x y c.len-before.result c.len-after.result c.self.invariant c.requires.partition real
    c.cache_place-at.ensures.place
    c.index_mut-cache.ensures.value c.len-before.ensures c.len-after.ensures v
    (let e = c.len-after.ensures c.push.new.seat.view in let f = ap length c.push.ensures.front in let d = c.len-before.ensures v in
    let few = c.requires.few in let g = ap (λ (z : CacheParts). length (list_in v z).titles) there in
    let kept = (c.rows_have_bounds.ensures.bounds (parts_of p class c.args.self.now).class c.requires.list.is.class).few_kept in
    omega (arith, e, f, d, few, g, kept))

pub invariant_of-self : goal.invariant_of-self
invariant_of-self c =
    let cs : WorkerCaches = record { version = c.self.inside.version; parts = c.self.inside.caches.items } in
    let p = c.args.partition in let class = c.args.class in let at = c.cache_place-at.result in let v = c.args.seat.now.view in
    let x = c.index_mut-cache.result.now in let y = c.push.new.self in
    let real = subst (λ (z : WorkerCaches). HasClass z.version c.args.class) (sym c.self.view_is) c.requires.class in
    let there : x ≡ parts_of p class c.args.self.now =
    part_is cs p class at x c.requires.partition real c.self.invariant.many c.cache_place-at.ensures.place c.index_mut-cache.ensures.value ∙
    ap (parts_of p class) c.self.view_is in
    let was = call_few cs c.self.inside.sums p class at x y c.len-before.result c.len-after.result c.self.invariant c.requires.partition
    real c.cache_place-at.ensures.place
    c.index_mut-cache.ensures.value c.len-before.ensures c.len-after.ensures v in
    call_summed cs c.self.inside.sums p class at x y c.len-before.result c.len-after.result c.self.invariant c.requires.partition real
    c.cache_place-at.ensures.place
    c.index_mut-cache.ensures.value c.len-before.ensures c.len-after.ensures c.changed_by-sum.result
    (let e = c.len-after.ensures c.push.new.seat.view in let f = ap length c.push.ensures.front in let d = c.len-before.ensures v in
    let few = c.requires.few in let g = ap (λ (z : CacheParts). length (list_in v z).titles) there in
    let kept = (c.rows_have_bounds.ensures.bounds (parts_of p class c.args.self.now).class c.requires.list.is.class).few_kept in
    omega (arith, e, f, d, few, g, kept)) c.changed_by-sum.ensures

pub returns-clause-front : goal.returns-clause-front
returns-clause-front c =
    let cs : WorkerCaches = record { version = c.self.inside.version; parts = c.self.inside.caches.items } in
    let p = c.args.partition in let class = c.args.class in let at = c.cache_place-at.result in let v = c.args.seat.now.view in
    let x = c.index_mut-cache.result.now in let y = c.push.new.self in
    let real = subst (λ (z : WorkerCaches). HasClass z.version c.args.class) (sym c.self.view_is) c.requires.class in
    let there : x ≡ parts_of p class c.args.self.now =
    part_is cs p class at x c.requires.partition real c.self.invariant.many c.cache_place-at.ensures.place c.index_mut-cache.ensures.value ∙
    ap (parts_of p class) c.self.view_is in
    let w = c.push.new.seat.view in
    let titles = c.push.ensures.front ∙ ap (λ (z : CacheParts). c.args.title ∷ (list_in v z).titles) there in
    record {
      becomes = record {
        new = y;
        after_is = call_becomes cs c.self.inside.sums p class at x y c.len-before.result c.len-after.result c.self.invariant
            c.requires.partition real c.cache_place-at.ensures.place
            c.index_mut-cache.ensures.value c.len-before.ensures c.len-after.ensures
            ∙ ap (with_parts p class y) c.self.view_is;
        class_is = c.push.ensures.class ∙ ap (λ (z : CacheParts). z.class) there;
        titles_are = titles;
        list = c.push.ensures.list;
      };
      relinked = c.push.ensures.relinked;
      beside = subst (λ ts. SameBeside ts v.words w.words) titles c.push.ensures.beside;
    }
