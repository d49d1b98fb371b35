use Rattle.std.proofs.Common.{◌≡◌, length, ◌∙◌, ap, subst, sym, arith}
use Rattle.pa_region.specs.Start.{first_view}
use Rattle.pa_rules.specs.Sizes.{HasClass}
use Rattle.pa_cache.specs.Chained.{CacheParts, list_in}
use Rattle.pa_thread_state.specs.Lists.{WorkerCaches, parts_of, titles_of}
use Rattle.pa_thread_state.proofs.Chained.{titles_of_list}
use Rattle.pa_thread_state.proofs.Summing.{part_is}
use Rattle.pa_thread_state.proofs.lists.Lists.len.Goals as goal

pub cache_place-requires-clause-class : goal.cache_place-requires-clause-class
cache_place-requires-clause-class c = subst (λ (z : WorkerCaches). HasClass z.version c.args.class) (sym c.self.view_is) c.requires.class

pub returns-clause-count : goal.returns-clause-count
returns-clause-count c v =
    let cs : WorkerCaches = record { version = c.self.inside.version; parts = c.self.inside.caches.items } in
    let p = c.args.partition in let class = c.args.class in
    let real = subst (λ (z : WorkerCaches). HasClass z.version class) (sym c.self.view_is) c.requires.class in
    let there = part_is cs p class c.cache_place.result c.index.result.now c.requires.partition real c.self.invariant.many
    c.cache_place.ensures.place c.index.ensures in
    c.len.ensures v ∙ ap (λ (z : CacheParts). length (list_in v z).titles) (there ∙ ap (parts_of p class) c.self.view_is)

pub returns-clause-few : goal.returns-clause-few
returns-clause-few c =
    let cs : WorkerCaches = record { version = c.self.inside.version; parts = c.self.inside.caches.items } in
    let p = c.args.partition in let class = c.args.class in let v = first_view 0 0 in
    let real = subst (λ (z : WorkerCaches). HasClass z.version class) (sym c.self.view_is) c.requires.class in
    let there = part_is cs p class c.cache_place.result c.index.result.now c.requires.partition real c.self.invariant.many
    c.cache_place.ensures.place c.index.ensures in
    let count : c.len.result ≡ length (titles_of v p class cs) = c.len.ensures v ∙
    ap (λ (z : CacheParts). length (list_in v z).titles) there in
    let long = ap length (titles_of_list v cs p class c.requires.partition real c.self.invariant.many) in
    let few = c.self.invariant.short v p class in
    omega (arith, count, long, few)
