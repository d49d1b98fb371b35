use Rattle.std.proofs.Common.{◌≡◌, ◌≤◌, List, length, sym, ◌∙◌, ap, arith, subst}
use Rattle.pa_record.specs.declared.numbered.Numbered.{Numbered}
use Rattle.pa_rules.specs.Caches.{with_list}
use Rattle.pa_rules.specs.Sizes.{HasClass}
use Rattle.pa_audit_holders.specs.Lists.{VersionLists, cache_in}
use Rattle.pa_audit_holders.proofs.Listing.{cache_put, listed_there}
use Rattle.pa_audit_holders.proofs.Summing.{list_short, part_there, summed_there}
use Rattle.pa_audit_holders.proofs.lists.ThreadLists.replace.Goals as goal

pub cache_place-at-requires-clause-class : goal.cache_place-at-requires-clause-class
cache_place-at-requires-clause-class c = subst (λ (v : VersionLists). HasClass v.version c.args.class) (sym c.self.view_is) c.requires.class

pub changed_by-sum-requires : goal.changed_by-sum-requires
changed_by-sum-requires c =
    let all : VersionLists = record { version = c.self.inside.version; lists = c.self.inside.lists.items } in
    let p = c.args.partition in
    let real = subst (λ (v : VersionLists). HasClass v.version c.args.class) (sym c.self.view_is) c.requires.class in
    let there = listed_there all p c.args.class c.cache_place-at.result _ c.replace-replaced.result c.self.invariant.many
    c.requires.partition real c.cache_place-at.ensures.place
    (c.replace-replaced.ensures.value ∙ c.index_mut.ensures.value) in
    let few : c.len-after.result ≤ 64 = omega (arith, c.len-after.ensures, c.requires.few) in
    part_there all c.self.inside.sums p c.args.class c.len-before.result c.len-after.result c.self.invariant c.requires.partition real
    (c.len-before.ensures ∙ ap length there) few

pub invariant_of-self : goal.invariant_of-self
invariant_of-self c =
    let all : VersionLists = record { version = c.self.inside.version; lists = c.self.inside.lists.items } in
    let p = c.args.partition in
    let real = subst (λ (v : VersionLists). HasClass v.version c.args.class) (sym c.self.view_is) c.requires.class in
    let there = listed_there all p c.args.class c.cache_place-at.result _ c.replace-replaced.result c.self.invariant.many
    c.requires.partition real c.cache_place-at.ensures.place
    (c.replace-replaced.ensures.value ∙ c.index_mut.ensures.value) in
    let same = c.replace-replaced.ensures.after in
    let few : length c.replace-replaced.new.dest ≤ 64 = subst (λ (xs : List Numbered). length xs ≤ 64) (sym same) c.requires.few in
    summed_there all c.self.inside.sums p c.args.class c.cache_place-at.result c.len-before.result c.len-after.result
    c.replace-replaced.new.dest c.changed_by-sum.result c.self.invariant c.requires.partition real
    c.cache_place-at.ensures.place (c.len-before.ensures ∙ ap length there) (c.len-after.ensures ∙ ap length (sym same)) few
    c.changed_by-sum.ensures

pub returns-clause-slots : goal.returns-clause-slots
returns-clause-slots c =
    let all : VersionLists = record { version = c.self.inside.version; lists = c.self.inside.lists.items } in
    let p = c.args.partition in
    let real = subst (λ (v : VersionLists). HasClass v.version c.args.class) (sym c.self.view_is) c.requires.class in
    listed_there all p c.args.class c.cache_place-at.result _ c.replace-replaced.result c.self.invariant.many c.requires.partition real
    c.cache_place-at.ensures.place
    (c.replace-replaced.ensures.value ∙ c.index_mut.ensures.value)
    ∙ ap (λ (v : VersionLists). cache_in v c.args.partition c.args.class) c.self.view_is

pub returns-clause-few : goal.returns-clause-few
returns-clause-few c =
    let all : VersionLists = record { version = c.self.inside.version; lists = c.self.inside.lists.items } in
    let p = c.args.partition in
    let real = subst (λ (v : VersionLists). HasClass v.version c.args.class) (sym c.self.view_is) c.requires.class in
    let there = listed_there all p c.args.class c.cache_place-at.result _ c.replace-replaced.result c.self.invariant.many
    c.requires.partition real c.cache_place-at.ensures.place
    (c.replace-replaced.ensures.value ∙ c.index_mut.ensures.value) in
    subst (λ (xs : List Numbered). length xs ≤ 64) (sym there)
    (list_short all c.self.inside.sums p c.args.class c.self.invariant c.requires.partition real)

pub returns-clause-after : goal.returns-clause-after
returns-clause-after c =
    let all : VersionLists = record { version = c.self.inside.version; lists = c.self.inside.lists.items } in
    let p = c.args.partition in
    let real = subst (λ (v : VersionLists). HasClass v.version c.args.class) (sym c.self.view_is) c.requires.class in
    cache_put all p c.args.class c.cache_place-at.result c.replace-replaced.new.dest c.self.invariant.many c.requires.partition real
    c.cache_place-at.ensures.place
    ∙ ap (λ (xs : List Numbered). with_list (cache_in all) c.args.partition c.args.class xs) c.replace-replaced.ensures.after
    ∙ ap (λ (v : VersionLists). with_list (cache_in v) c.args.partition c.args.class c.args.slots) c.self.view_is
