use Rattle.std.proofs.Common.{List, drop, ◌∙◌, ap, subst}
use Rattle.pa_record.specs.declared.numbered.Numbered.{Numbered}
use Rattle.pa_rules.specs.Roots.{journal_at}
use Rattle.pa_rules.specs.Caches.{OnlyActs, gives, with_list}
use Rattle.pa_audit_holders.specs.Lists.{cache_in}
use Rattle.pa_audit_holders.proofs.Listing.{with_again}
use Rattle.pa_audit_holders.proofs.Leading.{put_row, slice_rest}
use Rattle.pa_audit_holders.proofs.returns.put_in_list.Goals as goal

pub returns-clause-row : goal.returns-clause-row
returns-clause-row c =
    let stays = c.how_many_stay-stays in
    let roots = journal_at c.args.page.now.roots in
    let p = c.args.bin.now.partition in
    let class = c.args.bin.now.class in
    let cache = cache_in c.args.cache.now in
    let more = c.items-2.result.now in
    let only : OnlyActs roots c.args.page.now.told.line p (gives (drop stays.result more)) =
    subst (λ (z : List Numbered). OnlyActs roots c.args.page.now.told.line p (gives z)) (slice_rest stays.result more)
    (c.only_gives.ensures.0 c.if-not-only_gives.false) in
    let becomes =
    with_again cache (cache_in c.replace-slots.new.self)
    (cache_in c.replace.new.self) p class c.new-none.result c.keep.new.self c.replace-slots.ensures.after c.replace.ensures.after in
    put_row roots c.args.page.now.told.line p class stays.result c.args.slot cache (cache_in c.replace.new.self)
    c.replace-slots.result c.put_front.new.self c.items.result.now more c.replace-slots.ensures.slots c.in_ok-put_front.ensures.put
    c.items.ensures c.items-2.ensures
    stays.ensures.kept stays.ensures.spilled only (becomes ∙ ap (λ (z : List Numbered). with_list cache p class z) c.keep.ensures)
