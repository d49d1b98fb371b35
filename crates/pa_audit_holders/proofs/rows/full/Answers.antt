use Rattle.std.proofs.Common.{◌≡◌, ℕ, ◌↔◌, List, [], sym, ◌∙◌, subst}
use Rattle.std.specs.Prelude.{IsTrue}
use Rattle.pa_rules.specs.Sizes.{HasClass}
use Rattle.pa_rules.specs.declared.played.Played.{Played}
use Rattle.pa_record.specs.declared.numbered.Numbered.{Numbered}
use Rattle.pa_rules.specs.Roots.{AsksForClass, AsksForMap, journal_at}
use Rattle.pa_audit_holders.specs.Lists.{cache_in}
use Rattle.pa_audit_holders.proofs.Leading.{IsRoomless, full_by_class, full_by_map, full_by_none}
use Rattle.pa_audit_holders.proofs.rows.full.Goals as goal

pub list-list-requires-clause-class : goal.list-list-requires-clause-class
list-list-requires-clause-class c =
    let (reg, size, is, class) = c.in-Some.ensures.some in
    subst (λ v. HasClass v c.in-Some.bin.class) (c.told-told.ensures.version ∙ sym c.requires.version) (class.from, class.real)

pub returns-in-Some : goal.returns-in-Some
returns-in-Some c =
    let roots = journal_at c.args.page.now.roots in
    let p = c.in-Some.bin.partition in
    let class = c.in-Some.bin.class in
    let asks = subst (λ (o : Played). AsksForClass o p class) c.told-told.ensures.told c.in-Some.ensures.some in
    full_by_class roots c.args.page.now.told (cache_in c.args.cache.now) p class c.is_class_full.result asks
    (subst (λ (list : List Numbered). IsTrue c.is_class_full.result ↔ ((list ≡ []) × IsRoomless roots c.args.page.now.told.line p class))
    c.list-list.ensures.slots c.is_class_full.ensures)

pub returns-in-Some-map_asked : goal.returns-in-Some-map_asked
returns-in-Some-map_asked c =
    let (size, given) = c.in-Some-map_asked.ensures.some in
    let asks = subst (λ (o : Played). AsksForMap o c.in-Some-map_asked.partition size) c.told-told.ensures.told given in
    full_by_map (journal_at c.args.page.now.roots) c.args.page.now.told
    (cache_in c.args.cache.now) c.in-Some-map_asked.partition size c.is_map_full.result asks c.is_map_full.ensures

pub returns-in-None-map_asked : goal.returns-in-None-map_asked
returns-in-None-map_asked c =
    let no_class = subst (λ (o : Played). (p class : ℕ) → AsksForClass o p class → ⊥) c.told-told.ensures.told c.in-None.ensures.none in
    let no_map = subst (λ (o : Played). (p size : ℕ) → AsksForMap o p size → ⊥) c.told-told.ensures.told c.in-None-map_asked.ensures.none in
    full_by_none (journal_at c.args.page.now.roots) c.args.page.now.told (cache_in c.args.cache.now) no_class no_map
