use Rattle.std.proofs.Common.{◌≤◌, List, length, sym, ◌∙◌, ap, arith, subst}
use Rattle.pa_record.specs.declared.numbered.Numbered.{Numbered}
use Rattle.pa_rules.specs.Sizes.{HasClass}
use Rattle.pa_audit_holders.specs.Lists.{VersionLists, cache_in}
use Rattle.pa_audit_holders.proofs.Listing.{listed_there}
use Rattle.pa_audit_holders.proofs.Summing.{list_short}
use Rattle.pa_audit_holders.proofs.lists.ThreadLists.list.Goals as goal

pub cache_place-requires-clause-class : goal.cache_place-requires-clause-class
cache_place-requires-clause-class c = subst (λ (v : VersionLists). HasClass v.version c.args.class) (sym c.self.view_is) c.requires.class

pub index-requires : goal.index-requires
index-requires c = omega (arith, c.self.invariant.many, c.cache_place.ensures.within c.requires.partition)

pub returns-clause-slots : goal.returns-clause-slots
returns-clause-slots c =
    let all : VersionLists = record { version = c.self.inside.version; lists = c.self.inside.lists.items } in
    let real = subst (λ (v : VersionLists). HasClass v.version c.args.class) (sym c.self.view_is) c.requires.class in
    listed_there all c.args.partition c.args.class c.cache_place.result _ c.items.result.now c.self.invariant.many c.requires.partition real
    c.cache_place.ensures.place
    (c.items.ensures ∙ c.index.ensures)
    ∙ ap (λ (v : VersionLists). cache_in v c.args.partition c.args.class) c.self.view_is

pub returns-clause-few : goal.returns-clause-few
returns-clause-few c =
    let all : VersionLists = record { version = c.self.inside.version; lists = c.self.inside.lists.items } in
    let real = subst (λ (v : VersionLists). HasClass v.version c.args.class) (sym c.self.view_is) c.requires.class in
    let there = listed_there all c.args.partition c.args.class c.cache_place.result _ c.items.result.now c.self.invariant.many
    c.requires.partition real c.cache_place.ensures.place
    (c.items.ensures ∙ c.index.ensures) in
    subst (λ (xs : List Numbered). length xs ≤ 64) (sym there)
    (list_short all c.self.inside.sums c.args.partition c.args.class c.self.invariant c.requires.partition real)
