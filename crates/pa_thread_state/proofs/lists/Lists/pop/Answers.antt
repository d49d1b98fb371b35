use Rattle.std.proofs.Common.{◌≡◌, length, sym, ◌∙◌, ap, subst, arith}
use Rattle.pa_rules.specs.Sizes.{HasClass}
use Rattle.pa_cache.specs.Chained.{CacheParts, HoldsList, list_in}
use Rattle.pa_thread_state.specs.Lists.{WorkerCaches, parts_of, with_parts}
use Rattle.std.proofs.Common.{refl, ◌++◌}
use Rattle.std.specs.Option.{option_to_list}
use Rattle.std.proofs.lemmas.List.{length-append}
use Rattle.pa_region.specs.Shares.{Share}
use Rattle.pa_thread_state.proofs.Summing.{part_is, call_few, call_part, call_becomes, call_summed}
use Rattle.pa_thread_state.proofs.lists.Lists.pop.Goals as goal

pub cache_place-at-requires-clause-class : goal.cache_place-at-requires-clause-class
cache_place-at-requires-clause-class c = subst (λ (z : WorkerCaches). HasClass z.version c.args.class) (sym c.self.view_is) c.requires.class

pub pop-title-requires-clause-list : goal.pop-title-requires-clause-list
pop-title-requires-clause-list c =
    let cs : WorkerCaches = record { version = c.self.inside.version; parts = c.self.inside.caches.items } in
    let p = c.args.partition in let class = c.args.class in let at = c.cache_place-at.result in let v = c.args.seat.now.view in
    let x = c.index_mut-cache.result.now in
    let real = subst (λ (z : WorkerCaches). HasClass z.version c.args.class) (sym c.self.view_is) c.requires.class in
    let there : x ≡ parts_of p class c.args.self.now =
    part_is cs p class at x c.requires.partition real c.self.invariant.many c.cache_place-at.ensures.place c.index_mut-cache.ensures.value ∙
    ap (parts_of p class) c.self.view_is in
    subst (HoldsList v) (sym there) c.requires.list

pub changed_by-sum-requires : goal.changed_by-sum-requires
changed_by-sum-requires c =
    let cs : WorkerCaches = record { version = c.self.inside.version; parts = c.self.inside.caches.items } in
    let p = c.args.partition in let class = c.args.class in let at = c.cache_place-at.result in let v = c.args.seat.now.view in
    let x = c.index_mut-cache.result.now in let y = c.pop-title.new.self in
    let real = subst (λ (z : WorkerCaches). HasClass z.version c.args.class) (sym c.self.view_is) c.requires.class in
    let was = call_few cs c.self.inside.sums p class at x y c.len-before.result c.len-after.result c.self.invariant c.requires.partition
    real c.cache_place-at.ensures.place
    c.index_mut-cache.ensures.value c.len-before.ensures c.len-after.ensures v in
    call_part cs c.self.inside.sums p class at x y c.len-before.result c.len-after.result c.self.invariant c.requires.partition real
    c.cache_place-at.ensures.place
    c.index_mut-cache.ensures.value c.len-before.ensures c.len-after.ensures v
    (let d = c.len-before.ensures v in let e = c.len-after.ensures v in
    let f = subst (λ (s : Share). (list_in v x).titles ≡ option_to_list c.pop-title.result ++
    (list_in s.view y).titles) c.pop-title.ensures.seat c.pop-title.ensures.front in
    let g = ap length f ∙ length-append (option_to_list c.pop-title.result) (list_in v y).titles in
    omega (arith, d, e, g, was))

pub invariant_of-self : goal.invariant_of-self
invariant_of-self c =
    let cs : WorkerCaches = record { version = c.self.inside.version; parts = c.self.inside.caches.items } in
    let p = c.args.partition in let class = c.args.class in let at = c.cache_place-at.result in let v = c.args.seat.now.view in
    let x = c.index_mut-cache.result.now in let y = c.pop-title.new.self in
    let real = subst (λ (z : WorkerCaches). HasClass z.version c.args.class) (sym c.self.view_is) c.requires.class in
    let was = call_few cs c.self.inside.sums p class at x y c.len-before.result c.len-after.result c.self.invariant c.requires.partition
    real c.cache_place-at.ensures.place
    c.index_mut-cache.ensures.value c.len-before.ensures c.len-after.ensures v in
    call_summed cs c.self.inside.sums p class at x y c.len-before.result c.len-after.result c.self.invariant c.requires.partition real
    c.cache_place-at.ensures.place
    c.index_mut-cache.ensures.value c.len-before.ensures c.len-after.ensures c.changed_by-sum.result
    (let d = c.len-before.ensures v in let e = c.len-after.ensures v in
    let f = subst (λ (s : Share). (list_in v x).titles ≡ option_to_list c.pop-title.result ++
    (list_in s.view y).titles) c.pop-title.ensures.seat c.pop-title.ensures.front in
    let g = ap length f ∙ length-append (option_to_list c.pop-title.result) (list_in v y).titles in
    omega (arith, d, e, g, was)) c.changed_by-sum.ensures

pub returns-clause-pops : goal.returns-clause-pops
returns-clause-pops c =
    let cs : WorkerCaches = record { version = c.self.inside.version; parts = c.self.inside.caches.items } in
    let p = c.args.partition in let class = c.args.class in let at = c.cache_place-at.result in let v = c.args.seat.now.view in
    let x = c.index_mut-cache.result.now in let y = c.pop-title.new.self in
    let real = subst (λ (z : WorkerCaches). HasClass z.version c.args.class) (sym c.self.view_is) c.requires.class in
    let there : x ≡ parts_of p class c.args.self.now =
    part_is cs p class at x c.requires.partition real c.self.invariant.many c.cache_place-at.ensures.place c.index_mut-cache.ensures.value ∙
    ap (parts_of p class) c.self.view_is in
    let same = c.pop-title.ensures.seat in
    record {
      rest = (list_in v y).titles;
      becomes = record {
        new = y;
        after_is = call_becomes cs c.self.inside.sums p class at x y c.len-before.result c.len-after.result c.self.invariant
            c.requires.partition real c.cache_place-at.ensures.place
            c.index_mut-cache.ensures.value c.len-before.ensures c.len-after.ensures
            ∙ ap (with_parts p class y) c.self.view_is;
        class_is = c.pop-title.ensures.class ∙ ap (λ (z : CacheParts). z.class) there;
        titles_are = refl;
        list = subst (λ (s : Share). HoldsList s.view y) same c.pop-title.ensures.list;
      };
      was = ap (λ (z : CacheParts). (list_in v z).titles) (sym there)
          ∙ subst (λ (s : Share). (list_in v x).titles ≡ option_to_list c.pop-title.result ++
          (list_in s.view y).titles) same c.pop-title.ensures.front;
    }
