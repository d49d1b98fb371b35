use Rattle.std.proofs.Common.{ℕ, sym, ◌∙◌, subst}
use Rattle.pa_rules.specs.Sizes.{HasClass}
use Rattle.pa_rules.specs.declared.played.Played.{Played}
use Rattle.pa_rules.specs.Roots.{AsksForClass, AsksForMap, journal_at}
use Rattle.pa_audit_holders.specs.Lists.{cache_in}
use Rattle.pa_audit_holders.proofs.Leading.{made_by_class, made_by_map, made_by_none}
use Rattle.pa_audit_holders.proofs.rows.made.Goals as goal

pub made_of_class-requires-clause-class : goal.made_of_class-requires-clause-class
made_of_class-requires-clause-class c =
    let (reg, size, is, class) = c.in-Some.ensures.some in
    subst (λ v. HasClass v c.in-Some.bin.class) (c.told-told.ensures.version ∙ sym c.requires.version) (class.from, class.real)

pub returns-in_ok-fits-in-Some-clause-row : goal.returns-in_ok-fits-in-Some-clause-row
returns-in_ok-fits-in-Some-clause-row c =
    let asks = subst (λ (o : Played). AsksForClass o c.in-Some.bin.partition c.in-Some.bin.class) c.told-told.ensures.told
    c.in-Some.ensures.some in
    made_by_class (journal_at c.args.page.now.roots) c.args.page.now.told c.args.seen (cache_in c.args.cache.now)
    (cache_in c.made_of_class.new.cache) c.in-Some.bin.partition c.in-Some.bin.class c.in_ok-fits-in-Some.fits asks
    c.in_ok-fits-in-Some.ensures.row

pub returns-in-Some-map_asked-clause-row : goal.returns-in-Some-map_asked-clause-row
returns-in-Some-map_asked-clause-row c =
    let (size, given) = c.in-Some-map_asked.ensures.some in
    let asks = subst (λ (o : Played). AsksForMap o c.in-Some-map_asked.partition size) c.told-told.ensures.told given in
    made_by_map (journal_at c.args.page.now.roots) c.args.page.now.told c.args.seen
    (cache_in c.args.cache.now) c.in-Some-map_asked.partition size c.is_mapped.result asks c.is_mapped.ensures

pub returns-in-None-map_asked-clause-row : goal.returns-in-None-map_asked-clause-row
returns-in-None-map_asked-clause-row c =
    let no_class = subst (λ (o : Played). (p class : ℕ) → AsksForClass o p class → ⊥) c.told-told.ensures.told c.in-None.ensures.none in
    let no_map = subst (λ (o : Played). (p size : ℕ) → AsksForMap o p size → ⊥) c.told-told.ensures.told c.in-None-map_asked.ensures.none in
    made_by_none (journal_at c.args.page.now.roots) c.args.page.now.told c.args.seen (cache_in c.args.cache.now) no_class no_map
